-- Every refusal of pictures and maps of other shops is reached, by computing. Assumes nothing.
use mathlib.Core.Path.{refl}
use lib.Ieee.{is_nan, of_bits, of_fields, odd, to_bits}
use Rattle.refusals.specs.Answered.{first_of}
use Rattle.lists.specs.Rows.{bottom_up}
use Rattle.texts.specs.Digits.{decimal_text}
use Rattle.maps.specs.Map.{good_size}
use Rattle.netpbm.specs.Header.{starts_with, take_word, take_white, after_blanks, take_blanks, digits_of, take_number, take_spaced, take_ended}
use Rattle.netpbm.specs.Order.{low_bytes, pattern_of, four_bytes_of, four_pattern}
use Rattle.netpbm.specs.Raster.{sized}
use Rattle.netpbm.specs.Pgm.{take_pgm_head, read_pgm}
use Rattle.netpbm.specs.Pfm.{cell_bytes, cells_bytes, pfm_head, pfm_of, take_sign, take_fraction, take_scale, take_pfm_head, file_cell, file_cells, read_pfm}
use Rattle.promises.specs.FileWitnesses.{FilesReached}

-- THEOREM: every number of the files is answered for some bytes, some map or some output
pub files-reached : FilesReached
unfolding first_of is_nan of_bits of_fields odd to_bits bottom_up decimal_text good_size starts_with take_word take_white after_blanks take_blanks digits_of take_number take_spaced take_ended low_bytes pattern_of four_bytes_of four_pattern sized take_pgm_head read_pgm cell_bytes cells_bytes pfm_head pfm_of take_sign take_fraction take_scale take_pfm_head file_cell file_cells read_pfm
files-reached = record {
  pgm-41 = refl;
  pgm-41-comment = refl;
  pgm-41-late = refl;
  pgm-42 = refl;
  pgm-43 = refl;
  pgm-44 = refl;
  pgm-44-over = refl;
  pgm-45 = refl;
  pgm-is = refl;
  pgm-read = refl;
  write-23 = refl;
  write-45 = refl;
  write-is = refl;
  written = refl;
  pfm-41 = refl;
  pfm-41-scale = refl;
  pfm-43 = refl;
  pfm-44 = refl;
  pfm-44-over = refl;
  pfm-45 = refl;
  pfm-is = refl;
  pfm-read = refl;
}

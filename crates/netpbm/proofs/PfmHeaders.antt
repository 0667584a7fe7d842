-- Every PFM header of the grammar is read, and no other. Assumes nothing.
use Prim.Native.Nat.{ℕ, ◌+◌, ◌-◌, ◌<◌}
use mathlib.Core.Path.{◌≡◌, refl, ap, ◌∙◌, subst}
use mathlib.Core.Bool.{Bool, true, false, cond}
use mathlib.Core.List.{List, [], ◌∷◌, ◌++◌, append_assoc}
use native.Mathlib.Omega.{arith}
use borrow.Author.Tests.{lt-ltb, ltb-true, ne_eqb}
use lib.Dec.{ltb}
use lib.ListN.{drop}
use Rattle.refusals.specs.Steps.{is, Taken}
use Rattle.refusals.proofs.Stepwise.{same-result, then_is, given-then}
use Rattle.texts.specs.Digits.{is_digit, decimal_text, Numeral}
use Rattle.netpbm.specs.declared.order.Order.{Order}
use Rattle.netpbm.specs.declared.order.Order.TheVariants.{Little, Big}
use Rattle.netpbm.specs.Header.{starts_with, take_word, digits_of, take_number, take_ended}
use Rattle.netpbm.specs.Pfm.{pfm_magic, space, line_end, minus, plus, point, scale_line, pfm_head, Scale, PfmHead, take_sign, take_fraction, take_scale, take_pfm_head}
use Rattle.netpbm.specs.Grammar.{Sign, negative, positive, unsigned, Fraction, pointed, whole, ScaleText, PfmHeader}
use Rattle.texts.proofs.Decimals.{decimal-numeral}
use Rattle.netpbm.proofs.Takes.{word-taken, number-taken, first-digit, ended-taken, joined, front-word, word-only, number-only, ended-only}

-- ---- the scale's line

-- a sign before a number
sign-taken : {x word : List ℕ} {o : Order} {n : ℕ} (s : List ℕ) → Sign x o → Numeral word n → take_sign (x ++ (word ++ s)) ≡ record { order = o; rest = word ++ s }
unfolding take_sign starts_with
sign-taken s negative w = refl
sign-taken s positive w = refl
sign-taken {word = []} s unsigned w = absurd (omega (arith, w.some))
sign-taken {word = b ∷ word} s unsigned w =
    let low = first-digit w in
    rw (ne_eqb b 45 (omega arith), ne_eqb b 43 (omega arith))

-- the sign that was taken
sign-only : (s : List ℕ) → (x : List ℕ) × (s ≡ x ++ (take_sign s).rest) × Sign x (take_sign s).order
unfolding take_sign
sign-only s = go (starts_with minus s) (starts_with plus s) refl refl
  where
    go : (t u : Bool) → starts_with minus s ≡ t → starts_with plus s ≡ u
        → let r = cond {A = Scale} t (record { order = Little; rest = drop 1 s }) (cond u (record { order = Big; rest = drop 1 s }) (record { order = Big; rest = s })) in
        (x : List ℕ) × (s ≡ x ++ r.rest) × Sign x r.order
    go true u e f = (minus, front-word minus s e, negative)
    go false true e f = (plus, front-word plus s f, positive)
    go false false e f = ([], refl, unsigned)

-- a fraction before the line's end
fraction-taken : {x : List ℕ} {m : ℕ} (s : List ℕ) → Fraction x m → take_fraction (x ++ (line_end ++ s)) ≡ is (record { number = m; rest = line_end ++ s })
unfolding take_fraction starts_with digits_of
fraction-taken s (pointed w) = number-taken (line_end ++ s) w refl
fraction-taken s whole = refl

-- no digit stands where it begins
fraction_end : {x : List ℕ} {m : ℕ} (s : List ℕ) → Fraction x m → digits_of (x ++ (line_end ++ s)) ≡ []
unfolding digits_of
fraction_end s (pointed w) = refl
fraction_end s whole = refl

-- a fraction that was taken
fraction-only : (s : List ℕ) (t : Taken) → take_fraction s ≡ is t → (x : List ℕ) × (s ≡ x ++ t.rest) × Fraction x t.number
unfolding take_fraction
fraction-only s t = go (starts_with point s) refl
  where
    go : (u : Bool) → starts_with point s ≡ u → cond u (take_number (drop 1 s)) (is (record { number = 0; rest = s })) ≡ is t → (x : List ℕ) × (s ≡ x ++ t.rest) × Fraction x t.number
    go true e f =
        let n = number-only (drop 1 s) t f in
        (point ++ n.0, front-word point s e ∙ ap (λ r. point ++ r) n.1, pointed n.2)
    go false e f = subst (λ (t : Taken). (x : List ℕ) × (s ≡ x ++ t.rest) × Fraction x t.number) (same-result f) ([], refl, whole)

-- the whole line
scale-taken : {line : List ℕ} {o : Order} (s : List ℕ) → ScaleText line o → take_scale (line ++ s) ≡ is (record { order = o; rest = s })
unfolding take_scale
scale-taken {line} {o} s p =
    let end = line_end ++ s in
    let parts : line ++ s ≡ p.sign ++ (p.units ++ (p.fraction ++ end)) = rw p.text (simp append_assoc) in
    rw (
      parts,
      sign-taken (p.fraction ++ end) p.order p.number,
      number-taken (p.fraction ++ end) p.number (fraction_end s p.part),
      fraction-taken s p.part,
      lt-ltb 0 (p.before + p.after) p.some,
      word-taken line_end s,
    )

-- a line that was taken
scale-only : (s : List ℕ) (scale : Scale) → take_scale s ≡ is scale → (line : List ℕ) × (s ≡ line ++ scale.rest) × ScaleText line scale.order
unfolding take_scale
scale-only s scale e =
    let units = then_is (take_number (take_sign s).rest) _ scale e in
    let fraction = then_is (take_fraction units.0.rest) _ scale units.2 in
    let some = given-then (ltb 0 (units.0.number + fraction.0.number)) 41 fraction.0 _ scale fraction.2 in
    let end = then_is (take_word line_end fraction.0.rest) _ scale some.1 in
    let a = sign-only s in
    let b = number-only (take_sign s).rest units.0 units.1 in
    let c = fraction-only units.0.rest fraction.0 fraction.1 in
    let d = word-only line_end fraction.0.rest end.0 end.1 in
    subst (λ (scale : Scale). (line : List ℕ) × (s ≡ line ++ scale.rest) × ScaleText line scale.order) (same-result end.2) (
      a.0 ++ b.0 ++ c.0 ++ line_end,
      joined a.0 b.0 c.0 line_end end.0 a.1 b.1 c.1 d,
      record {
        sign = a.0;
        units = b.0;
        fraction = c.0;
        before = units.0.number;
        after = fraction.0.number;
        text = refl;
        order = a.2;
        number = b.2;
        part = c.2;
        some = ltb-true _ _ some.0;
      },
    )

-- ---- the header

-- its parts and what follows them, each in what the one before it left
lines : {s p q r : List ℕ} (a b c d e f t : List ℕ) → s ≡ a ++ p → p ≡ b ++ (c ++ q) → q ≡ d ++ (e ++ r) → r ≡ f ++ t → s ≡ a ++ b ++ c ++ d ++ e ++ f ++ t
lines a b c d e f t g h i j = rw (g, h, i, j) (simp append_assoc)

-- THEOREM: every such header is read
pub pfm-head-read : (s : List ℕ) (o : Order) (w h : ℕ) (rest : List ℕ) → PfmHeader s o w h rest → take_pfm_head s ≡ is (record { order = o; width = w; height = h; rest = rest })
unfolding take_pfm_head digits_of
pfm-head-read s o w h rest p =
    let scale = p.scale ++ rest in
    let height = p.height ++ (line_end ++ scale) in
    let parts : s ≡ pfm_magic ++ (p.width ++ (space ++ height)) = p.text ∙ simp append_assoc in
    rw (
      parts,
      word-taken pfm_magic (p.width ++ (space ++ height)),
      ended-taken space height p.wide refl,
      ended-taken line_end scale p.high refl,
      scale-taken rest p.order,
    )

-- THEOREM: and what is read is such a header
pub pfm-head-only : (s : List ℕ) (head : PfmHead) → take_pfm_head s ≡ is head → PfmHeader s head.order head.width head.height head.rest
unfolding take_pfm_head
pfm-head-only s head e =
    let magic = then_is (take_word pfm_magic s) _ head e in
    let width = then_is (take_ended space magic.0) _ head magic.2 in
    let height = then_is (take_ended line_end width.0.rest) _ head width.2 in
    let scale = then_is (take_scale height.0.rest) _ head height.2 in
    let a = ended-only space magic.0 width.0 width.1 in
    let b = ended-only line_end width.0.rest height.0 height.1 in
    let c = scale-only height.0.rest scale.0 scale.1 in
    subst (λ (head : PfmHead). PfmHeader s head.order head.width head.height head.rest) (same-result scale.2) (record {
      width = a.0;
      height = b.0;
      scale = c.0;
      text = lines pfm_magic a.0 space b.0 line_end c.0 scale.0.rest (word-only pfm_magic s magic.0 magic.1) a.1 b.1 c.1;
      wide = a.2;
      high = b.2;
      order = c.2;
    })

-- THEOREM: what is written before a map is such a header
pub pfm-head-written : (w h : ℕ) (s : List ℕ) → w < 10000 → h < 10000 → PfmHeader (pfm_head w h ++ s) Little w h s
unfolding pfm_head
pfm-head-written w h s few less =
    let digit : (b : ℕ) → is_digit b ≡ true → Numeral (b ∷ []) (b - 48) = λ b d. record { digit = rw d; some = omega arith; value = omega arith } in
    record {
      width = decimal_text w;
      height = decimal_text h;
      scale = scale_line;
      text = refl;
      wide = decimal-numeral w few;
      high = decimal-numeral h less;
      order = record {
        sign = minus;
        units = 49 ∷ [];
        fraction = 46 ∷ 48 ∷ [];
        before = 1;
        after = 0;
        text = refl;
        order = negative;
        number = digit 49 refl;
        part = pointed (digit 48 refl);
        some = omega arith;
      };
    }

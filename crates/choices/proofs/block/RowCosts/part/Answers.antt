-- `choices::block::RowCosts::part` meets its contract: the part that is lent holds the cells of index k. Assumes nothing.
use Rattle.choices.proofs.Spans.{lent}
use Rattle.choices.proofs.block.RowCosts.part.Goals as goal

pub returns-clause-reads : goal.returns-clause-reads
returns-clause-reads c = (lent _ _ _ _ _ c.span-span.ensures c.args.self.within c.requires).reads

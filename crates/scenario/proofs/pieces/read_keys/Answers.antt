use Rattle.std.proofs.Common.{map, subst}
use Rattle.std.specs.List.{AllZip}
use Rattle.std.proofs.lemmas.List.{take_all}
use Rattle.scenario.specs.Cells.{ColumnText}
use Rattle.scenario.proofs.Parting.{texts_more}
use Rattle.scenario.proofs.Refusing.{one_unread}
use Rattle.scenario.proofs.Telling.{found_on}
use Rattle.scenario.proofs.pieces.read_keys.Goals as goal

pub loop-text-preserved : goal.loop-text-preserved
loop-text-preserved c =
    texts_more (ColumnText c.args.reads.keys) c.args.texts.now c.loop-text.text-index _ c.loop-text.keys.items c.push.new.self.items c.in_ok-read_column.field-0 c.loop-text-test.true c.loop-text.invariant
    c.in_ok-read_column.ensures c.in_ok-push.ensures.items

pub returns : goal.returns
returns c = subst (λ ts. AllZip (ColumnText c.args.reads.keys) (map (λ t. t.now) ts) c.loop-text.keys.items) (take_all c.loop-text.text-index c.args.texts.now c.loop-text-test.false) c.loop-text.invariant

pub returns-in_err-read_column : goal.returns-in_err-read_column
returns-in_err-read_column c =
    found_on _ _ _ _ _ c.read_column.result c.from_residual.result c.in_err-read_column.field-0.0 c.read_column.ensures c.in_err-read_column.was c.from_residual.ensures.1 (λ f h. h)
    (λ none keys. one_unread (ColumnText c.args.reads.keys) c.args.texts.now keys.items c.loop-text.text-index _ c.loop-text-test.true none)

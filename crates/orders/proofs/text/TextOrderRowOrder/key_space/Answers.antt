use Rattle.std.proofs.Common.{Ok, ap, ◌∙◌}
use Rattle.layout.specs.Written.{space_of}
use Rattle.tables.proofs.Declining.{passed, answer_none, drop_fine}
use Rattle.tables.proofs.Taking.{measured, never_declined}
use Rattle.orders.proofs.Laid.{text_within, texts_laid}
use Rattle.orders.proofs.text.TextOrderRowOrder.key_space.Goals as goal

pub returns-in_err-space : goal.returns-in_err-space
returns-in_err-space c =
    let w = text_within c.args.self.now c.args.named c.args.n (passed _ _ _ c.in_ok-check_column.ensures) in
    absurd (never_declined _ _ _ (drop_fine _ _ w.1) c.in_err-space.ensures)

pub returns : goal.returns
returns c =
    let o = c.args.self.now in
    let p = passed _ _ _ c.in_ok-check_column.ensures in
    ap Ok (measured _ _ _ c.in_ok-space.ensures ∙ ap space_of (texts_laid o c.args.named c.args.n p)) ∙ answer_none _ _ p

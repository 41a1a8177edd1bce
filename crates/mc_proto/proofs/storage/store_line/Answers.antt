use Rattle.std.proofs.Common.{◌∙◌, [], ℕ, List, Bor, sym}
use Rattle.mc_proto.proofs.CasLineLemmas.{store_row}
use Rattle.mc_proto.proofs.storage.store_line.Goals as goal

pub returns-clause-value : goal.returns-clause-value
returns-clause-value c =
    let none : Bor (List ℕ) = record { ref_ptr = (0, 0); now = [] } in
    c.stored_said.ensures.value
    ∙ store_row c.args.limits c.args.verb c.args.args.now none c.in-Some-2.key c.in-Some.quiet c.in-len4-up.len_at_least (sym c.in-Some.is ∙ c.quiet_by.ensures) (sym c.in-Some-2.is ∙ c.in_ok-key.ensures)

use Rattle.std.proofs.Common.{◌∙◌, [], ℕ, List, Bor, sym}
use Rattle.std.specs.Prelude.{Some}
use Rattle.mc_proto.proofs.CasLineLemmas.{cas_row, cas_with}
use Rattle.mc_proto.proofs.storage.cas_line.Goals as goal

pub returns-clause-value : goal.returns-clause-value
returns-clause-value c =
    let none : Bor (List ℕ) = record { ref_ptr = (0, 0); now = [] } in
    let a = c.args in
    let key = c.in-Some-2.key in
    let quiet = c.in-Some.quiet in
    let unique = c.in-Some-number_up_to.unique in
    c.stored_said.ensures.value
    ∙ cas_with a.limits key quiet _ _ _ unique
    ∙ cas_row a.limits a.args.now none key quiet (Some unique) c.in-len5-up.len_at_least (sym c.in-Some.is ∙ c.quiet_by.ensures) (sym c.in-Some-2.is ∙ c.in_ok-key.ensures)
    (sym c.in-Some-number_up_to.is ∙ c.number_up_to.ensures.value)

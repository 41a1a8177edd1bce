-- The source may be asked where the run asks.
use Rattle.std.proofs.Common.{◌≡◌, Bool, true, false, ℕ, List, refl, sym, ap, subst, ◌∙◌}
use Rattle.std.specs.Prelude.{if◌then◌else◌}
use Rattle.mc_script.specs.Run.{IsOut}
use Rattle.mc_tests.specs.declared.tests.asking.TheConstants.{LIMITS}
use Rattle.mc_tests.proofs.tests.asking.run_watched.Goals as goal

-- one for what holds
abbrev count : Bool → ℕ
count b = if b then 1 else 0

-- what counts as none doesn't hold
none_holds : (b : Bool) → count b ≡ 0 → b ≡ false
none_holds true is = cc
none_holds false is = refl

pub run_script-outcome-requires-clause-asks : goal.run_script-outcome-requires-clause-asks
run_script-outcome-requires-clause-asks g c = λ e came gave out reads writes over. record {
  came = came;
  split = sym c.new.ensures.bytes ∙ gave;
  out = subst (λ (t : List ℕ). IsOut LIMITS came t e.sink.little.bytes.items) c.new-2.ensures out;
  fine = none_holds e.source.failed (reads ∙ ap count c.new.ensures.fine);
  more = none_holds e.ended over;
}

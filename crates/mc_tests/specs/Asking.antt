-- When a source that sees its sink may be asked.
use Rattle.std.specs.Prelude.{ℕ, ◌≡◌, ◌++◌, List, [], Bool, false}
use Rattle.mc_proto.specs.declared.request.Limits.{Limits}
use Rattle.mc_script.specs.Run.{IsOut}

-- no read failed, the end wasn't reached, and the replies to all that came of the script are out
pub record MayAsk (limits : Limits) (script coming taken : List ℕ) (failed ended : Bool) : Type 0 where
  pub came : List ℕ
  pub split : script ≡ came ++ coming
  pub out : IsOut limits came [] taken
  pub fine : failed ≡ false
  pub more : ended ≡ false

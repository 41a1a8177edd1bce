-- An input while it is cut: the bytes passed so far, which are the next script's, and those that are coming (this project's own).
use Rattle.std.specs.Prelude.{◌<◌, ◌≤◌, ◌++◌, ℕ, List, Option, Some, None, length, take, drop}
use Rattle.mc_proto.specs.{Grammar.Spells, Scripts.IsLast, Scripts.IsWhole}
use Rattle.mc_proto.specs.declared.{request.Limits.Limits, request.Request.TheVariants.Next}

-- the bytes that were passed since some were last taken, and the bytes that are coming
pub record Passing : Type 0 where
  pub passed : List ℕ
  pub coming : List ℕ

-- the view of an input in pieces: the ones passed, the current one, taken up to `begin` and passed up to `at`, and the rest
abbrev pub passing : List ℕ → ℕ → ℕ → List ℕ → List ℕ → Passing
passing done begin at piece rest = record { passed = done ++ drop begin (take at piece); coming = drop at piece ++ rest }

-- a whole script was passed, and a line of this many bytes comes that begins the next one; if none, what was passed and what is
-- coming are the last script
abbrev pub PassesScript : Limits → Passing → Option ℕ → Type 0
PassesScript limits u None = IsLast limits (u.passed ++ u.coming)
PassesScript limits u (Some line) = (0 < line) × (line ≤ length u.coming) × IsWhole limits u.passed × Spells limits (take line u.coming) Next

-- What holds of all that the table's rows ask, for lines that begin in some way.
use Rattle.std.proofs.Common.{◌≡◌, ◌++◌, ◌∷◌, [], ◌-◌, ◌<◌, ◌==◌, ℕ, List, length, take, get_or, Bool, true, false, subst, inl, inr}
use Rattle.std.specs.Prelude.{if◌then◌else◌, ◌⊎◌, Option, Some, None}
use Rattle.std.specs.{List.list_all, Option.option_map, Option.unwrap_or}
use Rattle.mc_proto.specs.Kinds.{Kind, Key, Value, value, fault_of_kind}
use Rattle.mc_proto.specs.Lines.{AreSpaces, AreTokens, is_key, is_word, tokens, no_cr}
use Rattle.mc_proto.specs.Table.{Asks, End, Line, Nothing, Noreply, Keys, LineRow, bad, no_line, table, quiet_of, kinds_say, row_says, rows_say, tokens_say, says}
use Rattle.mc_proto.specs.declared.{request.Limits.Limits, request.LineFault.TheVariants.Format, state.Said.Said}
use Rattle.mc_proto.proofs.LineLemmas.{tokens_make_line}

-- it holds of what a row asks, whatever the values of its tokens
abbrev pub HoldsOfRow : (Said → Type 0) → (kinds : List Kind) → (end : End) → Asks kinds end → Type 0
HoldsOfRow P (kind ∷ kinds) end asks = (v : Value kind) → HoldsOfRow P kinds end (asks v)
HoldsOfRow P [] Nothing asks = P asks
HoldsOfRow P [] Noreply asks = (quiet : Bool) → P (asks quiet)
HoldsOfRow P [] Keys asks = (keys : List (List ℕ)) → P (asks keys)

-- it holds of what each row asks, unless no verb that begins so is the row's
abbrev pub HoldsOfRows : (Said → Type 0) → (List ℕ → Type 0) → List LineRow → Type 0
HoldsOfRows P Q [] = Unit {0}
HoldsOfRows P Q (Line word kinds end asks ∷ rows) = (HoldsOfRow P kinds end asks ⊎ ((verb : List ℕ) → Q verb → is_word verb word ≡ false)) × HoldsOfRows P Q rows

-- a row, and those behind it
pub and : {A B : Type 0} → A → B → A × B
and a b = (a, b)

either_holds : (P : Said → Type 0) (b : Bool) (x y : Said) → P x → P y → P (if b then x else y)
either_holds P true x y p q = p
either_holds P false x y p q = q

option_holds : (P : Said → Type 0) {V : Type 0} (o : Option V) (f : V → Said) (d : Said) → ((v : V) → P (f v)) → P d → P (unwrap_or (option_map f o) d)
option_holds P None f d p q = q
option_holds P (Some v) f d p q = p v

-- it holds of each line that is refused for a token or its number of tokens
module _ (P : Said → Type 0) (refused : (kind : Kind) (quiet : Bool) → P (bad (fault_of_kind kind) quiet)) (none : P no_line) (limits : Limits) where
  kinds_hold : (quiet : Bool) (kinds : List Kind) (end : End) (asks : Asks kinds end) (args : List (List ℕ)) → HoldsOfRow P kinds end asks → P (kinds_say limits quiet kinds end asks args)
  kinds_hold quiet (kind ∷ kinds) end asks [] p = none
  kinds_hold quiet (kind ∷ kinds) end asks (token ∷ args) p =
      option_holds P (value limits kind token) (λ v. kinds_say limits quiet kinds end (asks v) args) (bad (fault_of_kind kind) quiet) (λ v. kinds_hold quiet kinds end (asks v) args (p v)) (refused kind quiet)
  kinds_hold quiet [] Nothing asks args p = p
  kinds_hold quiet [] Noreply asks args p = p quiet
  kinds_hold quiet [] Keys asks args p = either_holds P (list_all is_key args) (asks args) (bad Format quiet) (p args) (refused Key quiet)

  row_holds : (kinds : List Kind) (end : End) (asks : Asks kinds end) (args : List (List ℕ)) → HoldsOfRow P kinds end asks → P (row_says limits kinds end asks args)
  row_holds kinds end asks args p = option_holds P (quiet_of kinds end args) (λ quiet. kinds_say limits quiet kinds end asks args) no_line (λ quiet. kinds_hold quiet kinds end asks args p) none

  rows_hold : (Q : List ℕ → Type 0) (rows : List LineRow) (verb : List ℕ) (args : List (List ℕ)) → HoldsOfRows P Q rows → Q verb → P (rows_say limits rows verb args)
  rows_hold Q [] verb args p q = none
  rows_hold Q (Line word kinds end asks ∷ rows) verb args (inl p, more) q =
      either_holds P (is_word verb word) (row_says limits kinds end asks args) (rows_say limits rows verb args) (row_holds kinds end asks args p) (rows_hold Q rows verb args more q)
  rows_hold Q (Line word kinds end asks ∷ rows) verb args (inr off, more) q =
      let not : is_word verb word ≡ false = off verb q in
      rw not (rows_hold Q rows verb args more q)

  -- it holds of what a line says that begins so, where its front and its verb begin so too
  module _ (Q : List ℕ → Type 0) (front : (n : ℕ) (line : List ℕ) → Q line → Q (take n line)) (verb : (spaces token rest : List ℕ) → AreSpaces spaces
      → 0 < length token → Q (spaces ++ token ++ rest) → Q token) (rows : HoldsOfRows P Q (table limits)) where
    tokens_hold : (line : List ℕ) (ts : List (List ℕ)) → AreTokens line ts → Q line → P (tokens_say limits ts)
    tokens_hold line [] made q = none
    tokens_hold line (t ∷ ts) made q = rows_hold Q (table limits) t ts rows (verb made.1.spaces t made.0 made.1.blank made.1.some (subst Q made.1.whole q))

    no_cr_holds : (line : List ℕ) (b : Bool) → Q line → Q (if b then take (length line - 1) line else line)
    no_cr_holds line true q = front (length line - 1) line q
    no_cr_holds line false q = q

    pub line_holds : (line : List ℕ) → Q line → P (says limits line)
    unfolding says
    line_holds line q = tokens_hold (no_cr line) (tokens (no_cr line)) (tokens_make_line (no_cr line)) (no_cr_holds line (get_or line (length line - 1) 0 == 13) q)

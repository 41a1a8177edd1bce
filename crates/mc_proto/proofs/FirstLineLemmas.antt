-- What a line asks for that stands first in a stream, however the stream goes on.
use Rattle.std.proofs.Common.{◌≡◌, ◌++◌, ◌+◌, ◌<◌, ◌≤◌, ℕ, List, length, refl, ap, sym, ◌∙◌, arith, take, get_or, true, false, subst, length-append}
use Rattle.std.specs.Prelude.{Option, None}
use Rattle.std.proofs.lemmas.List.{take_all, take-append-le, get_or_append_left}
use Rattle.mc_proto.specs.{Lines.Lacks, Table.says, Grammar.wanted, Grammar.IsFine}
use Rattle.mc_proto.specs.Scripts.{AsksFirst, IsLast, IsPlain, LineAsks, says_next}
use Rattle.mc_proto.specs.declared.{request.Limits.Limits, splitting.First.First, state.Said.Said}
use Rattle.mc_proto.specs.declared.splitting.First.TheVariants.{More, Begins, Last}
use Rattle.mc_proto.proofs.PlainLineLemmas.{plain_first}
use Rattle.mc_proto.proofs.ScriptCutLemmas.{last_block, last_line, last_too_long, more_first, next_first}

-- a line that ends in the first bytes of a stream
module _ (limits : Limits) (bytes more : List ℕ) (end : ℕ) (l : end < length bytes) (lf : get_or bytes end 0 ≡ 10) (lack : Lacks 10 (take end bytes)) (short : end ≤ 65536) where
  front : take end (bytes ++ more) ≡ take end bytes
  front = take-append-le end bytes more (omega arith)

  long : end < length (bytes ++ more)
  long = omega (arith, length-append bytes more)

  ends : get_or (bytes ++ more) end 0 ≡ 10
  ends = get_or_append_left bytes more 0 end l ∙ lf

  one : Lacks 10 (take end (bytes ++ more))
  one = subst (Lacks 10) (sym front) lack

  ends_within : (n : ℕ) (x : Said) → x ≡ says limits (take end bytes) → n ≡ wanted x → length (bytes ++ more) < end + 1 + n → IsLast limits (bytes ++ more)
  ends_within n x is many part =
      let all : n ≡ wanted (says limits (take end (bytes ++ more))) = many ∙ ap wanted is ∙ ap (λ t. wanted (says limits t)) (sym front) in
      last_block limits (bytes ++ more) end long ends one short (omega arith)

  pub more_asked : (n : ℕ) (x : Said) → x ≡ says limits (take end bytes) → IsFine limits x → n ≡ wanted x → false ≡ says_next x → AsksFirst limits (bytes ++ more) (More (end + 1 + n))
  more_asked n x is fine many off = (
    (λ fits. (omega arith, fits, more_first limits (bytes ++ more) end n x long ends one short (is ∙ ap (says limits) (sym front)) fine many fits off)),
    ends_within n x is many,
  )

  pub next_asked : (n : ℕ) (x : Said) → x ≡ says limits (take end bytes) → n ≡ wanted x → true ≡ says_next x → AsksFirst limits (bytes ++ more) (Begins (end + 1 + n))
  next_asked n x is many on = (
    (λ fits. (omega arith, fits, next_first limits (bytes ++ more) end n x long ends one short (is ∙ ap (says limits) (sym front)) many fits on)),
    ends_within n x is many,
  )

  pub plain_asked : IsPlain (get_or bytes 0 0) → AsksFirst limits (bytes ++ more) (More (end + 1))
  plain_asked plain = (
    (λ fits. (omega arith, fits, plain_first limits (bytes ++ more) end long ends one short (subst IsPlain (sym (get_or_append_left bytes more 0 0 (omega arith))) plain))),
    (λ part. absurd (omega (arith, long))),
  )

-- a line that is too long
pub long_asked : (limits : Limits) (bytes more : List ℕ) (end : ℕ) → end ≤ length bytes → Lacks 10 (take end bytes) → 65536 < end → AsksFirst limits (bytes ++ more) Last
long_asked limits bytes more end le lack long = (
  (λ _. last_too_long limits (bytes ++ more) end (omega (arith, length-append bytes more)) (subst (Lacks 10) (sym (take-append-le end bytes more le)) lack) long),
  (λ none. absurd (omega arith)),
)

-- no line ends in a stream
pub none_alone : (limits : Limits) (bytes : List ℕ) (o : Option First) → LineAsks limits bytes o → o ≡ None → IsLast limits bytes
none_alone limits bytes o asks is =
    let none : LineAsks limits bytes None = subst (LineAsks limits bytes) is asks in
    last_line limits bytes (length bytes) refl (subst (Lacks 10) (sym (take_all (length bytes) bytes (omega arith))) none.0) none.1

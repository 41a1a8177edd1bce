-- Behind a line that begins as delete, get, gat, incr or touch do, a script goes on at once.
use Rattle.std.proofs.Common.{◌≡◌, ◌++◌, ◌∷◌, [], ◌+◌, ◌<◌, ◌≤◌, ℕ, List, length, refl, take, get_or, Bool, false, subst, inl, inr, zero, suc, arith}
use Rattle.std.specs.Prelude.{nat_eq}
use Rattle.mc_proto.specs.{Kinds.Kind, Kinds.fault_of_kind, Kinds.Delta, Kinds.NewExptime, Kinds.Key, Kinds.Flags, Kinds.Exptime, Kinds.Bytes, Kinds.CasNumber}
use Rattle.mc_proto.specs.{Kinds.Moment, Kinds.Classes, Kinds.OneClass, Kinds.ChunkLimit, Lines.AreSpaces, Lines.Lacks, Lines.is_word, Table.bad, Table.table, Table.says, Grammar.Spells}
use Rattle.mc_proto.specs.{Grammar.closes, Grammar.wanted, Grammar.request_asked, Scripts.GoesOn, Scripts.IsOther, Scripts.IsPlain}
use Rattle.mc_proto.specs.declared.{request.Limits.Limits, request.Request.Request, state.Said.Said}
use Rattle.mc_proto.specs.declared.state.Said.TheVariants as said
use Rattle.mc_proto.proofs.{TableRowLemmas.HoldsOfRows, TableRowLemmas.and, TableRowLemmas.line_holds, ScriptCutLemmas.spelt_first, ScriptCutLemmas.other_is}

-- bytes that are none, or begin with a plain one
abbrev Begins : List ℕ → Type 0
Begins [] = Unit {0}
Begins (b ∷ bs) = IsPlain b

bad_on : (kind : Kind) (quiet : Bool) → GoesOn (bad (fault_of_kind kind) quiet)
bad_on Delta quiet = (refl, refl)
bad_on NewExptime quiet = (refl, refl)
bad_on Key quiet = (refl, refl)
bad_on Flags quiet = (refl, refl)
bad_on Exptime quiet = (refl, refl)
bad_on Bytes quiet = (refl, refl)
bad_on CasNumber quiet = (refl, refl)
bad_on Moment quiet = (refl, refl)
bad_on Classes quiet = (refl, refl)
bad_on OneClass quiet = (refl, refl)
bad_on ChunkLimit quiet = (refl, refl)

-- a plain byte is another than the first one of a word
other_byte : (b c : ℕ) → IsPlain b → nat_eq 100 c ≡ false → nat_eq 103 c ≡ false → nat_eq 105 c ≡ false → nat_eq 116 c ≡ false → nat_eq b c ≡ false
other_byte b c (inl is) d g i t = rw is d
other_byte b c (inr (inl is)) d g i t = rw is g
other_byte b c (inr (inr (inl is))) d g i t = rw is i
other_byte b c (inr (inr (inr is))) d g i t = rw is t

other_word : (c : ℕ) (cs verb : List ℕ) → nat_eq 100 c ≡ false → nat_eq 103 c ≡ false → nat_eq 105 c ≡ false → nat_eq 116 c ≡ false → Begins verb → is_word verb (c ∷ cs) ≡ false
other_word c cs [] d g i t plain = refl
other_word c cs (b ∷ bs) d g i t plain =
    let off : nat_eq b c ≡ false = other_byte b c plain d g i t in
    rw off refl

-- behind what each row asks the script goes on, unless its verb doesn't begin with a plain byte
table_on : (limits : Limits) → HoldsOfRows GoesOn Begins (table limits)
table_on limits =
    and (inl (λ keys. (refl, refl)))
    (and (inl (λ keys. (refl, refl)))
    (and (inl (λ e keys. (refl, refl)))
    (and (inl (λ e keys. (refl, refl)))
    (and (inr (λ verb. other_word _ _ verb refl refl refl refl))
    (and (inr (λ verb. other_word _ _ verb refl refl refl refl))
    (and (inr (λ verb. other_word _ _ verb refl refl refl refl))
    (and (inr (λ verb. other_word _ _ verb refl refl refl refl))
    (and (inr (λ verb. other_word _ _ verb refl refl refl refl))
    (and (inr (λ verb. other_word _ _ verb refl refl refl refl))
    (and (inl (λ key delta quiet. (refl, refl)))
    (and (inl (λ key delta quiet. (refl, refl)))
    (and (inl (λ key e quiet. (refl, refl)))
    (and (inl (λ key quiet. (refl, refl)))
    (and (inl (λ moment. (refl, refl)))
    (and (inl (λ target. (refl, refl)))
    (and (inl (λ target. (refl, refl)))
    (and (inl (λ class n. (refl, refl)))
    (and (inr (λ verb. other_word _ _ verb refl refl refl refl))
    (and (inl (refl, refl))
    tt)))))))))))))))))))

no_space : (b : ℕ) → IsPlain b → b ≡ 32 → ⊥
no_space b (inl is) e = absurd (omega (arith, is, e))
no_space b (inr (inl is)) e = absurd (omega (arith, is, e))
no_space b (inr (inr (inl is))) e = absurd (omega (arith, is, e))
no_space b (inr (inr (inr is))) e = absurd (omega (arith, is, e))

begins_token : (spaces t rest : List ℕ) → AreSpaces spaces → 0 < length t → Begins (spaces ++ t ++ rest) → Begins t
begins_token [] [] rest blank some plain = tt
begins_token [] (c ∷ cs) rest blank some plain = plain
begins_token (s ∷ ss) t rest blank some plain = absurd (no_space s plain blank.0)

begins_take : (n : ℕ) (bs : List ℕ) → Begins bs → Begins (take n bs)
begins_take zero bs plain = tt
begins_take (suc n) [] plain = tt
begins_take (suc n) (b ∷ bs) plain = plain

line_on : (limits : Limits) (line : List ℕ) → Begins line → GoesOn (says limits line)
line_on limits = line_holds GoesOn bad_on (refl, refl) limits Begins begins_take begins_token (table_on limits)

on_wants_none : (x : Said) → GoesOn x → 0 ≡ wanted x
on_wants_none (said.Whole r) on = refl
on_wants_none (said.Block s) on = elim on [ ]
on_wants_none (said.Skip s) on = elim on [ ]

on_is : (x : Said) (block : List ℕ) → GoesOn x → (closes (request_asked x block) ≡ false) × IsOther (request_asked x block)
on_is (said.Whole r) block on = (on.0, other_is r on.1)
on_is (said.Block s) block on = elim on [ ]
on_is (said.Skip s) block on = elim on [ ]

begins_at : (bytes : List ℕ) → 0 < length bytes → IsPlain (get_or bytes 0 0) → Begins bytes
begins_at [] l plain = tt
begins_at (b ∷ bs) l plain = plain

-- behind a plain line a script goes on
pub plain_first : (limits : Limits) (bytes : List ℕ) (end : ℕ) → end < length bytes → get_or bytes end 0 ≡ 10 → Lacks 10 (take end bytes) → end ≤ 65536
    → IsPlain (get_or bytes 0 0) → (r : Request) × Spells limits (take (end + 1) bytes) r × (closes r ≡ false) × IsOther r
plain_first limits bytes end l lf lack short plain =
    let on : GoesOn (says limits (take end bytes)) = line_on limits (take end bytes) (begins_take end bytes (begins_at bytes (omega (arith, l)) plain)) in
    let is = on_is (says limits (take end bytes)) [] on in (
      request_asked (says limits (take end bytes)) [],
      subst (λ n. Spells limits (take n bytes) (request_asked (says limits (take end bytes)) [])) (omega arith)
          (spelt_first limits bytes end 0 l lf lack short (on_wants_none (says limits (take end bytes)) on) (omega (arith, l))),
      is.0,
      is.1,
    )

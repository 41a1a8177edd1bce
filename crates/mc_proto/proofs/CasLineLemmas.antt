-- The line cas, whose cas number is looked at before its flags: each fault is the same.
use Rattle.std.proofs.Common.{◌≡◌, ◌∷◌, [], ◌≤◌, ◌-◌, ℕ, ℤ, List, Bor, length, map, take, drop, get_or, ap, arith, refl}
use Rattle.std.proofs.lemmas.List.{take_all}
use Rattle.std.specs.Prelude.{Bool, Option, Some, None}
use Rattle.std.specs.Option.{option_map, unwrap_or}
use Rattle.mc_item.specs.declared.{command.Verb.Verb, command.Verb.TheVariants.Cas}
use Rattle.mc_proto.specs.{Kinds.Key, Kinds.Flags, Kinds.Exptime, Kinds.Bytes, Kinds.CasNumber, Lines.exptime, Lines.key_of_token, Lines.number_up_to}
use Rattle.mc_proto.specs.Table.{bad, store, kinds_say, row_says, quiet_of, Noreply}
use Rattle.mc_proto.specs.declared.{request.Limits.Limits, request.LineFault.TheVariants.Format, state.Said.Said}

-- what is said of a token's value, or that the line is refused
abbrev pub first : {A : Type 0} → Option A → Bool → (A → Said) → Said
first found quiet more = unwrap_or (option_map more found) (bad Format quiet)

-- what a line cas says by the values of its tokens behind the key
abbrev pub cas_says : Limits → List ℕ → Bool → Option ℕ → Option ℤ → Option ℕ → Option ℕ → Said
cas_says limits key quiet f e n u = first f quiet (λ flags. first e quiet (λ x. first n quiet (λ count. first u quiet (λ unique. store limits (Cas unique) key flags x count quiet))))

-- the same of a line of storage
abbrev pub store_says : Limits → Verb → List ℕ → Bool → Option ℕ → Option ℤ → Option ℕ → Said
store_says limits verb key quiet f e n = first f quiet (λ flags. first e quiet (λ x. first n quiet (λ count. store limits verb key flags x count quiet)))

-- with a cas number it is a line of storage
pub cas_with : (limits : Limits) (key : List ℕ) (quiet : Bool) (f : Option ℕ) (e : Option ℤ) (n : Option ℕ) (unique : ℕ) → store_says limits (Cas unique) key quiet f e n ≡ cas_says limits key quiet f e n (Some unique)
cas_with limits key quiet None e n unique = refl
cas_with limits key quiet (Some f) None n unique = refl
cas_with limits key quiet (Some f) (Some e) None unique = refl
cas_with limits key quiet (Some f) (Some e) (Some n) unique = refl

-- five tokens and the others are the tokens
five_and_rest : (ts : List (Bor (List ℕ))) (d : Bor (List ℕ)) → 5 ≤ length ts
    → (get_or ts 0 d).now ∷ (get_or ts 1 d).now ∷ (get_or ts 2 d).now ∷ (get_or ts 3 d).now ∷ (get_or ts 4 d).now ∷ map (λ t. t.now) (take (length ts - 5) (drop 5 ts)) ≡ map (λ t. t.now) ts
five_and_rest [] d some = absurd (omega arith)
five_and_rest (a ∷ []) d some = absurd (omega arith)
five_and_rest (a ∷ b ∷ []) d some = absurd (omega arith)
five_and_rest (a ∷ b ∷ c ∷ []) d some = absurd (omega arith)
five_and_rest (a ∷ b ∷ c ∷ e ∷ []) d some = absurd (omega arith)
five_and_rest (a ∷ b ∷ c ∷ e ∷ f ∷ ts) d some =
    ap (λ (rest : List (Bor (List ℕ))). a.now ∷ b.now ∷ c.now ∷ e.now ∷ f.now ∷ map (λ t. t.now) rest) (take_all (length (a ∷ b ∷ c ∷ e ∷ f ∷ ts) - 5) ts (omega arith))

-- a line cas with a good key, by its tokens and its cas number
pub cas_row : (limits : Limits) (ts : List (Bor (List ℕ))) (d : Bor (List ℕ)) (key : List ℕ) (quiet : Bool) (unique : Option ℕ) → 5 ≤ length ts
    → Some quiet ≡ quiet_of [] Noreply (map (λ t. t.now) (take (length ts - 5) (drop 5 ts))) → Some key ≡ key_of_token (get_or ts 0 d).now
    → unique ≡ number_up_to 18446744073709551615 (get_or ts 4 d).now
    → cas_says limits key quiet (number_up_to 4294967295 (get_or ts 1 d).now) (exptime (get_or ts 2 d).now) (number_up_to 2147483645 (get_or ts 3 d).now) unique
    ≡ row_says limits (Key ∷ Flags ∷ Exptime ∷ Bytes ∷ CasNumber ∷ []) Noreply (λ key flags e n unique. store limits (Cas unique) key flags e n) (map (λ t. t.now) ts)
cas_row limits ts d key quiet unique some q k u = rw (← (five_and_rest ts d some), ← q, ← k, u) refl

-- four tokens and the others are the tokens
four_and_rest : (ts : List (Bor (List ℕ))) (d : Bor (List ℕ)) → 4 ≤ length ts
    → (get_or ts 0 d).now ∷ (get_or ts 1 d).now ∷ (get_or ts 2 d).now ∷ (get_or ts 3 d).now ∷ map (λ t. t.now) (take (length ts - 4) (drop 4 ts)) ≡ map (λ t. t.now) ts
four_and_rest [] d some = absurd (omega arith)
four_and_rest (a ∷ []) d some = absurd (omega arith)
four_and_rest (a ∷ b ∷ []) d some = absurd (omega arith)
four_and_rest (a ∷ b ∷ c ∷ []) d some = absurd (omega arith)
four_and_rest (a ∷ b ∷ c ∷ e ∷ ts) d some =
    ap (λ (rest : List (Bor (List ℕ))). a.now ∷ b.now ∷ c.now ∷ e.now ∷ map (λ t. t.now) rest) (take_all (length (a ∷ b ∷ c ∷ e ∷ ts) - 4) ts (omega arith))

-- a line set, add, replace, append or prepend with a good key, by its tokens
pub store_row : (limits : Limits) (verb : Verb) (ts : List (Bor (List ℕ))) (d : Bor (List ℕ)) (key : List ℕ) (quiet : Bool) → 4 ≤ length ts
    → Some quiet ≡ quiet_of [] Noreply (map (λ t. t.now) (take (length ts - 4) (drop 4 ts))) → Some key ≡ key_of_token (get_or ts 0 d).now
    → kinds_say limits quiet (Flags ∷ Exptime ∷ Bytes ∷ []) Noreply (store limits verb key) ((get_or ts 1 d).now ∷ (get_or ts 2 d).now ∷ (get_or ts 3 d).now ∷ [])
    ≡ row_says limits (Key ∷ Flags ∷ Exptime ∷ Bytes ∷ []) Noreply (store limits verb) (map (λ t. t.now) ts)
store_row limits verb ts d key quiet some q k = rw (← (four_and_rest ts d some), ← q, ← k) refl

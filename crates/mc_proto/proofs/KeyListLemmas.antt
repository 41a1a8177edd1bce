-- The tokens of a line, seen through references: the keys of a get or gat, and noreply.
use Rattle.std.proofs.Common.{◌≡◌, ◌++◌, ◌∷◌, [], ◌+◌, ◌<◌, ℕ, List, length, refl, ap, sym, ◌∙◌, arith, suc, zero, take, drop, get_or, map, Bool, true, false}
use Rattle.std.specs.Prelude.{Option, Some, None, if◌then◌else◌}
use Rattle.std.specs.List.{list_all}
use Rattle.std.proofs.lemmas.List.{take_more, at_drop_more, length-map}
use Rattle.mc_proto.specs.{Lines.is_key, Lines.key_of_token}

pub get_or_map : {A B : Type 0} (f : A → B) (xs : List A) (i : ℕ) (d : A) → get_or (map f xs) i (f d) ≡ f (get_or xs i d)
get_or_map f [] i d = refl
get_or_map f (x ∷ xs) zero d = refl
get_or_map f (x ∷ xs) (suc i) d = get_or_map f xs i d

picked : (t k : List ℕ) (b : Bool) → is_key t ≡ b → Some k ≡ (if b then Some t else None) → (is_key t ≡ true) × (k ≡ t)
picked t k true is e = let same : k ≡ t = cc in (is, same)
picked t k false is e = absurd (cc)

-- a key is its token, which can be one
pub key_some : (t k : List ℕ) → Some k ≡ key_of_token t → (is_key t ≡ true) × (k ≡ t)
key_some t k e = picked t k (is_key t) refl e

unpicked : (t : List ℕ) (b : Bool) → is_key t ≡ b → None ≡ (if b then Some t else None) → is_key t ≡ false
unpicked t true is e = absurd (cc)
unpicked t false is e = is

-- where there is no key, the token can't be one
pub key_none : (t : List ℕ) → None ≡ key_of_token t → is_key t ≡ false
key_none t e = unpicked t (is_key t) refl e

tested : {A : Type 0} (f : A → List ℕ) (xs : List A) (i : ℕ) (d : A) → i < length xs → list_all is_key (drop i (map f xs)) ≡ list_all is_key (map f xs)
    → list_all is_key (get_or (map f xs) i (f d) ∷ drop (i + 1) (map f xs)) ≡ list_all is_key (map f xs)
tested f xs i d l at = sym (at_drop_more (list_all is_key) (map f xs) i (f d) (omega (arith, length-map xs f))) ∙ at

pub keys_more : {A : Type 0} (f : A → List ℕ) (xs : List A) (i : ℕ) (d : A) → i < length xs → is_key (f (get_or xs i d)) ≡ true
    → list_all is_key (drop i (map f xs)) ≡ list_all is_key (map f xs) → list_all is_key (drop (i + 1) (map f xs)) ≡ list_all is_key (map f xs)
keys_more f xs i d l is at =
    let on : is_key (get_or (map f xs) i (f d)) ≡ true = ap is_key (get_or_map f xs i d) ∙ is in
    let t = tested f xs i d l at in
    rw on at t

pub keys_end : {A : Type 0} (f : A → List ℕ) (xs : List A) (i : ℕ) (d : A) → i < length xs → is_key (f (get_or xs i d)) ≡ false
    → list_all is_key (drop i (map f xs)) ≡ list_all is_key (map f xs) → list_all is_key (map f xs) ≡ false
keys_end f xs i d l is at =
    let off : is_key (get_or (map f xs) i (f d)) ≡ false = ap is_key (get_or_map f xs i d) ∙ is in
    let t = tested f xs i d l at in
    sym (rw off at t)

-- the same where the key of a token was asked for and is none
pub keys_stop : {A : Type 0} (f : A → List ℕ) (xs : List A) (i : ℕ) (d : A) (key : Option (List ℕ)) → key ≡ key_of_token (f (get_or xs i d)) → key ≡ None
    → i < length xs → list_all is_key (drop i (map f xs)) ≡ list_all is_key (map f xs) → list_all is_key (map f xs) ≡ false
keys_stop f xs i d key is none l at = keys_end f xs i d l (key_none (f (get_or xs i d)) (sym none ∙ is)) at

pub taken_more : {A : Type 0} (f : A → List ℕ) (xs : List A) (i : ℕ) (d : A) → i < length xs → take (i + 1) (map f xs) ≡ take i (map f xs) ++ f (get_or xs i d) ∷ []
taken_more f xs i d l = take_more (map f xs) i (f d) (omega (arith, length-map xs f)) ∙ ap (λ (k : List ℕ). take i (map f xs) ++ k ∷ []) (get_or_map f xs i d)

-- the keys that tokens are, or none if one of them can't be a key
abbrev pub keys_of : List (List ℕ) → Option (List (List ℕ))
keys_of ks = if list_all is_key ks then Some ks else None

pub no_keys : (ks : List (List ℕ)) → list_all is_key ks ≡ false → None ≡ keys_of ks
no_keys ks off = rw off refl

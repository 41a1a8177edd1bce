-- Accounts: what of them holds of longer accounts, of shorter histories, and after events that were entered.
use Rattle.std.proofs.Common.{◌≡◌, ◌⊎◌, ℕ, zero, suc, ◌+◌, ◌≤◌, ◌<◌, List, [], ◌∷◌, ◌++◌, length, drop, cond, refl, sym, ap, ◌∙◌, subst, inl, inr, ⊎_elim, arith, length-drop, ne_eqb}
use Rattle.std.specs.Prelude.{Some, slice_get}
use Rattle.std.proofs.lemmas.Option.{same_Some, slice_get_within}
use mathlib.Core.List.{IsPrefix}
use Rattle.mc_item.specs.declared.{event.Event.Event, item.Who.Who}
use Rattle.mc_board.specs.declared.{rule.Owned.Owned, rule.Span.Span}
use Rattle.mc_board.specs.Accounts.{maker_in, with_new, with_span, AreBy, AreShown, IsAccount, IsEntered}
use Rattle.mc_board.specs.Steps.{account_of, owned_entered, owned_shown}

-- what stands in a list stands there in a longer one
pub get_longer : {A : Type 0} (xs ys : List A) (k : ℕ) (x : A) → IsPrefix xs ys → slice_get xs k ≡ Some x → slice_get ys k ≡ Some x
get_longer [] ys k x p e = absurd (cc e)
get_longer (y ∷ xs) [] k x p e = absurd (cc (p.1))
get_longer (y ∷ xs) (z ∷ ys) zero x p e = let heads : y ≡ z = cc (p.1) in ap Some (sym heads) ∙ e
get_longer (y ∷ xs) (z ∷ ys) (suc k) x p e = get_longer xs ys k x (p.0, cc (p.1)) e

-- what stands in two lists joined stands in one of them
pub get_either : {A : Type 0} (xs ys : List A) (k : ℕ) (x : A) → slice_get (xs ++ ys) k ≡ Some x
    → (slice_get xs k ≡ Some x) ⊎ ((j : ℕ) × (length xs + j ≡ k) × (slice_get ys j ≡ Some x))
get_either [] ys k x e = inr (k, omega arith, e)
get_either (y ∷ xs) ys zero x e = inl e
get_either (y ∷ xs) ys (suc k) x e = ⊎_elim (λ t. inl t)
    (λ (t : (j : ℕ) × (length xs + j ≡ k) × (slice_get ys j ≡ Some x)). let at = t.1 in inr (t.0, omega (arith, at), t.2))
    (get_either xs ys k x e)

-- the last one stands at the length of the others
pub get_last : {A : Type 0} (xs : List A) (x : A) → slice_get (xs ++ x ∷ []) (length xs) ≡ Some x
get_last [] x = refl
get_last (y ∷ xs) x = get_last xs x

-- what an account has, a longer one has
pub IsEntered-longer : (xs ys : List Span) (turn lock place : ℕ) → IsPrefix xs ys → IsEntered xs turn lock place → IsEntered ys turn lock place
IsEntered-longer xs ys turn lock place p e =
    record {
      index = e.index;
      span = e.span;
      there = get_longer xs ys e.index e.span p e.there;
      turn_is = e.turn_is;
      lock_is = e.lock_is;
      within = e.within;
    }

-- a whole account stays whole if it grows
pub IsAccount-longer : (first lock : ℕ) (xs ys : List Span) (h : ℕ → List Event) → IsPrefix xs ys → IsAccount first lock xs h → IsAccount first lock ys h
IsAccount-longer first lock xs ys h p a =
    record { has = λ at place event who there maker mine. IsEntered-longer xs ys who.turn at place p (a.has at place event who there maker mine) }

-- and is whole of beginnings of the histories
pub IsAccount-behind : (first lock : ℕ) (made : List Span) (g h : ℕ → List Event) → ((at : ℕ) → IsPrefix (g at) (h at)) → IsAccount first lock made h → IsAccount first lock made g
IsAccount-behind first lock made g h p a =
    record { has = λ at place event who there maker mine. a.has at place event who (get_longer (g at) (h at) place event (p at) there) maker mine }

-- no event is of any call
pub are_by_none : (who : Who) → AreBy who []
are_by_none who = record { each = λ place event there. absurd (cc there) }

-- events of one call, and more of it, are of it
pub are_by_both : (who : Who) (xs ys : List Event) → AreBy who xs → AreBy who ys → AreBy who (xs ++ ys)
are_by_both who xs ys a b =
    record { each = λ place event there. ⊎_elim (λ t. a.each place event t) (λ t. b.each t.0 event t.2) (get_either xs ys place event there) }

-- one event of a call
pub are_by_one : (who : Who) (event : Event) → maker_in event ≡ Some who → AreBy who (event ∷ [])
are_by_one who event maker = record { each = one }
  where
    one : (place : ℕ) (e : Event) → slice_get (event ∷ []) place ≡ Some e → maker_in e ≡ Some who
    one zero e there = let same : event ≡ e = cc there in subst (λ (x : Event). maker_in x ≡ Some who) same maker
    one (suc place) e there = absurd (cc there)

-- events of a call, and one more of it
pub are_by_push : (who : Who) (xs : List Event) (event : Event) → AreBy who xs → maker_in event ≡ Some who → AreBy who (xs ++ event ∷ [])
are_by_push who xs event a maker = are_by_both who xs (event ∷ []) a (are_by_one who event maker)

-- what a list has beyond a length, if it then gains more
drop_both : {A : Type 0} (n : ℕ) (xs ys : List A) → n ≤ length xs → drop n (xs ++ ys) ≡ drop n xs ++ ys
drop_both zero xs ys le = refl
drop_both (suc n) [] ys le = absurd (omega (arith, le))
drop_both (suc n) (x ∷ xs) ys le = drop_both n xs ys (omega (arith, le))

-- if what a list has beyond a length is of a call, and it gains more of that call, all beyond is of it
pub are_by_gained : (who : Who) (n : ℕ) (xs ys : List Event) → n ≤ length xs → AreBy who (drop n xs) → AreBy who ys → AreBy who (drop n (xs ++ ys))
are_by_gained who n xs ys le a b = subst (AreBy who) (sym (drop_both n xs ys le)) (are_by_both who (drop n xs) ys a b)

-- nothing is beyond the length of a list
drop_all : {A : Type 0} (xs : List A) → drop (length xs) xs ≡ []
drop_all [] = refl
drop_all (x ∷ xs) = drop_all xs

pub are_by_end : (who : Who) (xs : List Event) → AreBy who (drop (length xs) xs)
are_by_end who xs = subst (AreBy who) (sym (drop_all xs)) (are_by_none who)

-- what a list gained at its end is what it has beyond its old length
pub are_by_new : (who : Who) (xs ys : List Event) → AreBy who ys → AreBy who (drop (length xs) (xs ++ ys))
are_by_new who xs ys b = are_by_gained who (length xs) xs ys (omega arith) (are_by_end who xs) b

-- what was just entered in the account may be added: all new events of a list, of one call of the account's caller
pub shown_new : (owned caller : Owned) (who : Who) (all : List Event) (until : ℕ) → AreBy who (drop (length owned.history) all) → caller.first + who.caller ≡ caller.lock → length all ≡ until
    → AreShown (owned_shown owned (account_of (owned_entered caller (record { turn = who.turn; lock = owned.lock; from = length owned.history; until = until })))) (drop (length owned.history) all)
shown_new owned caller who all until by its many = record { each = each }
  where
    span : Span
    span = record { turn = who.turn; lock = owned.lock; from = length owned.history; until = until }

    each : (place : ℕ) (event : Event) (other : Who) → slice_get (drop (length owned.history) all) place ≡ Some event → maker_in event ≡ Some other
        → (caller.first + other.caller ≡ caller.lock) × IsEntered (with_span caller.made span) other.turn owned.lock (length owned.history + place)
    each place event other there maker =
        let same : who ≡ other = same_Some who other (sym (by.each place event there) ∙ maker) in
        let within = slice_get_within (drop (length owned.history) all) place event there in
        subst (λ (w : Who). (caller.first + w.caller ≡ caller.lock) × IsEntered (with_span caller.made span) w.turn owned.lock (length owned.history + place)) same (
          its,
          record {
            index = length caller.made;
            span = span;
            there = get_last caller.made span;
            turn_is = refl;
            lock_is = refl;
            within = (omega arith, omega (arith, within, length-drop (length owned.history) all, many));
          },
        )

-- the account with the events from one place to another, which are some
pub new_is : (xs ys : List Span) (turn lock lock' from from' until : ℕ) → xs ≡ ys → lock ≡ lock' → from ≡ from' → from < until
    → with_span xs (record { turn = turn; lock = lock; from = from; until = until }) ≡ with_new ys turn lock' from' until
new_is xs ys turn lock lock' from from' until made at begins some_new =
    (λ i. with_span (made i) (record { turn = turn; lock = at i; from = begins i; until = until }))
    ∙ sym (ap (λ b. cond b ys (with_span ys (record { turn = turn; lock = lock'; from = from'; until = until }))) (ne_eqb from' until (λ same. omega (arith, same, begins, some_new))))

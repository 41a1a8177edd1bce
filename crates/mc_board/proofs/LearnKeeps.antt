-- A token that learns what another has seen keeps the rule.
use Rattle.std.proofs.Common.{◌≡◌, ℕ, zero, suc, List, [], ◌∷◌, refl, sym, ap, subst}
use mathlib.Core.List.{IsPrefix}
use mathlib.Core.Option.{none}
use Rattle.atomic_table.specs.Table.{Me, step, keeps, Allows}
use Rattle.mc_item.specs.declared.event.Event.{Event}
use Rattle.mc_board.specs.declared.{rule.Counts.Counts, rule.Known.Known, rule.Sight.Sight, rule.View.View}
use Rattle.mc_board.specs.declared.rule.View.TheVariants as views
use Rattle.mc_board.specs.Histories.{list_at, Grows, IsBehind}
use Rattle.mc_board.specs.Learning.{joined, all_joined, with_learned, known_learned, Learned}
use Rattle.mc_board.proofs.{PrefixLemmas.prefix_nil, PrefixLemmas.prefix_self, CompareKeeps.viewed, RuleLemmas.Law, RuleLemmas.ledger}
use Rattle.mc_board.specs.Board.{IsToken}

joined_nil : (xs : List Event) → xs ≡ joined xs []
joined_nil [] = refl
joined_nil (x ∷ xs) = refl

-- the joined list begins with the first
joined_first : (xs ys : List Event) → IsPrefix xs (joined xs ys)
joined_first [] ys = prefix_nil ys
joined_first (x ∷ xs) [] = prefix_self (x ∷ xs)
joined_first (x ∷ xs) (y ∷ ys) = let r = joined_first xs ys in (r.0, ap (λ zs. x ∷ zs) r.1)

-- two beginnings of one list joined begin it too
joined_within : (xs ys zs : List Event) → IsPrefix xs zs → IsPrefix ys zs → IsPrefix (joined xs ys) zs
joined_within [] ys zs p q = q
joined_within (x ∷ xs) [] zs p q = p
joined_within (x ∷ xs) (y ∷ ys) [] p q = absurd (cc (p.1))
joined_within (x ∷ xs) (y ∷ ys) (z ∷ zs) p q =
    let heads : x ≡ z = cc (p.1) in
    let r = joined_within xs ys zs (p.0, cc (p.1)) (q.0, cc (q.1)) in
    (r.0, cc (heads, r.1))

-- and the joined list begins with the second
joined_second : (xs ys zs : List Event) → IsPrefix xs zs → IsPrefix ys zs → IsPrefix ys (joined xs ys)
joined_second [] ys zs p q = prefix_self ys
joined_second (x ∷ xs) [] zs p q = prefix_nil (x ∷ xs)
joined_second (x ∷ xs) (y ∷ ys) [] p q = absurd (cc (p.1))
joined_second (x ∷ xs) (y ∷ ys) (z ∷ zs) p q =
    let heads : x ≡ y = cc (p.1, q.1) in
    let r = joined_second xs ys zs (p.0, cc (p.1)) (q.0, cc (q.1)) in
    (r.0, cc (heads, r.1))

-- lock by lock
joined_at : (a b : List (List Event)) (lock : ℕ) → list_at (all_joined a b) lock ≡ joined (list_at a lock) (list_at b lock)
joined_at [] b zero = refl
joined_at [] b (suc lock) = refl
joined_at (x ∷ a) [] zero = joined_nil x
joined_at (x ∷ a) [] (suc lock) = joined_nil (list_at a lock)
joined_at (x ∷ a) (y ∷ b) zero = refl
joined_at (x ∷ a) (y ∷ b) (suc lock) = joined_at a b lock

-- who learns what another has seen stays behind
IsBehind-with_learned : (h : ℕ → List Event) (s t : Sight) → IsBehind h s → IsBehind h t → IsBehind h (with_learned s t)
IsBehind-with_learned h s t a b =
    record {
      seen = λ lock. subst (λ (l : List Event). IsPrefix l (h lock)) (sym (joined_at s.seen t.seen lock)) (joined_within (list_at s.seen lock) (list_at t.seen lock) (h lock) (a.seen lock) (b.seen lock));
      noted = a.noted;
      figures = a.figures;
    }

grows_mine : (s t : Sight) → Grows s (with_learned s t)
grows_mine s t = record { at = λ lock. subst (IsPrefix (list_at s.seen lock)) (sym (joined_at s.seen t.seen lock)) (joined_first (list_at s.seen lock) (list_at t.seen lock)) }

grows_theirs : (h : ℕ → List Event) (s t : Sight) → IsBehind h s → IsBehind h t → Grows t (with_learned s t)
grows_theirs h s t a b =
    record { at = λ lock. subst (IsPrefix (list_at t.seen lock)) (sym (joined_at s.seen t.seen lock)) (joined_second (list_at s.seen lock) (list_at t.seen lock) (h lock) (a.seen lock) (b.seen lock)) }

learns : (counts : Counts) (slots id word : ℕ) (known : Known)
    → Allows (Law counts) slots id (views.Seen known, []) word (λ n. n) (Learned (step slots word 0 0 none) (views.Seen known, []))
learns counts slots id word known s k homes at fits =
    let mine : IsToken (ledger counts s.words k.history k.stage k.owner k.made) known = k.known id (views.Seen known) at in
    let w = views.Seen (known_learned known) in (
      w,
      keeps,
      tt,
      viewed counts s k id word w (record { sight = IsBehind-with_learned k.history known.sight known.told mine.sight mine.told; told = mine.told; look = mine.look }),
      (refl, (grows_mine known.sight known.told, grows_theirs k.history known.sight known.told mine.sight mine.told)),
    )

-- the same at a view that is known to be this
pub learns_as : (counts : Counts) (slots id word : ℕ) (me : Me Unit View) (known : Known) → me ≡ (views.Seen known, [])
    → Allows (Law counts) slots id me word (λ n. n) (Learned (step slots word 0 0 none) me)
learns_as counts slots id word me known is =
    subst (λ (m : Me Unit View). Allows (Law counts) slots id m word (λ n. n) (Learned (step slots word 0 0 none) m)) (sym is) (learns counts slots id word known)

-- An entry stays listed when another comes.
use Rattle.std.proofs.Common.{ℕ, ◌∷◌, Bool, true, false, List, refl}
use Rattle.std.specs.Prelude.{Option, Some, None, if◌then◌else◌, IsSome, ◌==◌}
use Rattle.std.proofs.lemmas.Bool.{false≢true}
use Rattle.mc_item.specs.declared.{lists.Entry.Entry, lists.Seg.Seg, lists.Seg.TheVariants.Hot, lists.Seg.TheVariants.Warm, lists.Seg.TheVariants.Cold}
use Rattle.mc_item.specs.declared.{lists.Seg.TheVariants.Temp}
use Rattle.mc_rule.specs.{Lists.Lists, Lists.find, Lists.found_in, Lists.linked, Lawful.IsListed}

-- what is found in more lists is found
lift : (s : Seg) (a b : Option Entry) (x y : Option (Seg × Entry)) → (IsSome a → IsSome b) → (IsSome x → IsSome y) → IsSome (found_in s a x) → IsSome (found_in s b y)
lift s (Some e) (Some f) x y here behind there = refl
lift s None (Some f) x y here behind there = refl
lift s None None x y here behind there = behind there
lift s (Some e) None x y here behind there = absurd (false≢true (here refl))

-- with another entry before it a number is still found
some_if : (b : Bool) (e : Entry) (o : Option Entry) → IsSome o → IsSome (if b then Some e else o)
some_if true e o there = refl
some_if false e o there = there

found_more : (n : ℕ) (e : Entry) (es : List Entry) → IsSome (find n es) → IsSome (find n (e ∷ es))
found_more n e es there = some_if (e.number == n) e (find n es) there

pub listed_linked : (n : ℕ) (s : Seg) (e : Entry) (l : Lists) → IsListed n l → IsListed n (linked s e l)
listed_linked n Hot e l h = lift Hot (find n l.hot) _ _ _ (found_more n e l.hot) (λ k. k) h
listed_linked n Warm e l h = lift Hot (find n l.hot) (find n l.hot) _ _ (λ k. k) (lift Warm (find n l.warm) _ _ _ (found_more n e l.warm) (λ k. k)) h
listed_linked n Cold e l h =
    lift Hot (find n l.hot) (find n l.hot) _ _ (λ k. k)
    (lift Warm (find n l.warm) (find n l.warm) _ _ (λ k. k)
    (lift Cold (find n l.cold) _ _ _ (found_more n e l.cold) (λ k. k))) h
listed_linked n Temp e l h =
    lift Hot (find n l.hot) (find n l.hot) _ _ (λ k. k)
    (lift Warm (find n l.warm) (find n l.warm) _ _ (λ k. k)
    (lift Cold (find n l.cold) (find n l.cold) _ _ (λ k. k)
    (lift Temp (find n l.temp) _ _ _ (found_more n e l.temp) (λ k. k)))) h

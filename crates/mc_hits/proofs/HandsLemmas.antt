-- What becomes of a caller's hands if its hand in one queue changes.
use Rattle.std.proofs.Common.{◌≡◌, ℕ, zero, suc, ◌<◌, Bool, true, false, List, [], ◌∷◌, ◌++◌, length, get_or, set, refl, sym, ap, ◌∙◌, subst, arith}
use Rattle.std.specs.Prelude.{map, MatchBool, IfSome, Option, Some, None}
use Rattle.std.proofs.lemmas.List.{length-map, map-set, set-get_or}
use Rattle.atomic_table.specs.Seated.{TableId}
use Rattle.mc_hits.specs.declared.rule.Hit.{Hit}
use Rattle.mc_hits.specs.Views.{HitsView, HandView, HandsView, tables_of, hands_of, hit_of, with_hit}

-- what a list's elements show stays, if the one that changes shows the same
pub map_kept : {A B : Type 0} (f : A → B) (xs : List A) (k : ℕ) (x y : A) → x ≡ get_or xs k x → f y ≡ f x → map f (set xs k y) ≡ map f xs
map_kept f [] k x y at same = refl
map_kept f (z ∷ zs) zero x y at same = ap (λ b. b ∷ map f zs) (same ∙ ap f at)
map_kept f (z ∷ zs) (suc k) x y at same = ap (λ bs. f z ∷ bs) (map_kept f zs k x y at same)

-- what the element at a place shows stands at that place
pub map_at : {A B : Type 0} (f : A → B) (xs : List A) (k : ℕ) (x : A) (d : B) → k < length xs → x ≡ get_or xs k x → get_or (map f xs) k d ≡ f x
map_at f [] k x d below at = absurd (omega (arith, below))
map_at f (z ∷ zs) zero x d below at = sym (ap f at)
map_at f (z ∷ zs) (suc k) x d below at = map_at f zs k x d (omega (arith, below)) at

-- a caller's hands in queues: there are as many, and each is of its queue's table
module _ (caller k : ℕ) (xs : List HandView) (qs : List HitsView) (hands : HandsView) (queues : List HitsView)
    (hands_is : hands_of caller xs ≡ hands) (queues_is : qs ≡ queues) (tables : hands.tables ≡ tables_of queues) (below : k < length queues) where
  tables_meet : map (λ (h : HandView). h.table) xs ≡ tables_of qs
  tables_meet = ap (λ (h : HandsView). h.tables) hands_is ∙ (tables ∙ ap tables_of (sym queues_is))

  below_queues : k < length qs
  below_queues = subst (λ (l : List HitsView). k < length l) (sym queues_is) below

  pub below_hands : k < length xs
  below_hands =
      let long = sym (length-map xs (λ (h : HandView). h.table)) ∙ (ap length tables_meet ∙ length-map qs (λ (q : HitsView). q.table)) in
      subst (λ n. k < n) (sym long) below_queues

  pub same_table : (x : HandView) (q : HitsView) → x ≡ get_or xs k x → q ≡ get_or qs k q → x.table ≡ q.table
  same_table x q x_at q_at =
      sym (map_at (λ (h : HandView). h.table) xs k x x.table below_hands x_at)
      ∙ (ap (λ (l : List TableId). get_or l k x.table) tables_meet
      ∙ map_at (λ (h : HitsView). h.table) qs k q x.table below_queues q_at)

-- a caller's hands after the one in a queue has become y
module _ (caller k : ℕ) (xs : List HandView) (x y : HandView) (below : k < length xs) (x_at : x ≡ get_or xs k x) where
  same_hands : y ≡ x → hands_of caller (set xs k y) ≡ hands_of caller xs
  same_hands same = ap (λ (h : HandView). hands_of caller (set xs k h)) (same ∙ x_at) ∙ ap (hands_of caller) (set-get_or xs k x)

  -- the hit stands at the end of what the caller has offered to that queue
  with_offer : (hit : Hit) → y ≡ record x { offers = x.offers ++ hit ∷ [] }
      → hands_of caller (set xs k y) ≡ record (hands_of caller xs) { offers = with_hit (hands_of caller xs).offers k hit }
  with_offer hit is =
      let tables = map_kept (λ (h : HandView). h.table) xs k x y x_at (ap (λ (h : HandView). h.table) is) in
      let takings = map_kept (λ (h : HandView). h.takings) xs k x y x_at (ap (λ (h : HandView). h.takings) is) in
      let lists = map (λ (h : HandView). h.offers) xs in
      let longer : y.offers ≡ get_or lists k [] ++ hit ∷ [] =
      ap (λ (h : HandView). h.offers) is ∙ ap (λ (l : List Hit). l ++ hit ∷ []) (sym (map_at (λ (h : HandView). h.offers) xs k x [] below x_at)) in
      let offers : map (λ (h : HandView). h.offers) (set xs k y) ≡ with_hit lists k hit =
      map-set (λ (h : HandView). h.offers) xs k y ∙ ap (λ (l : List Hit). set lists k l) longer in
      λ i. record { caller = caller; tables = tables i; offers = offers i; takings = takings i }

  -- the hit stands at the end of what the caller has taken from that queue
  with_taking : (hit : Hit) → y ≡ record x { takings = x.takings ++ hit ∷ [] }
      → hands_of caller (set xs k y) ≡ record (hands_of caller xs) { takings = with_hit (hands_of caller xs).takings k hit }
  with_taking hit is =
      let tables = map_kept (λ (h : HandView). h.table) xs k x y x_at (ap (λ (h : HandView). h.table) is) in
      let offers = map_kept (λ (h : HandView). h.offers) xs k x y x_at (ap (λ (h : HandView). h.offers) is) in
      let lists = map (λ (h : HandView). h.takings) xs in
      let longer : y.takings ≡ get_or lists k [] ++ hit ∷ [] =
      ap (λ (h : HandView). h.takings) is ∙ ap (λ (l : List Hit). l ++ hit ∷ []) (sym (map_at (λ (h : HandView). h.takings) xs k x [] below x_at)) in
      let takings : map (λ (h : HandView). h.takings) (set xs k y) ≡ with_hit lists k hit =
      map-set (λ (h : HandView). h.takings) xs k y ∙ ap (λ (l : List Hit). set lists k l) longer in
      λ i. record { caller = caller; tables = tables i; offers = offers i; takings = takings i }

  offered_here : (turn number : ℕ) (b : Bool) → x.caller ≡ caller
      → MatchBool b (y ≡ record x { offers = x.offers ++ hit_of x.caller turn number ∷ [] }) (y ≡ x)
      → MatchBool b
      (hands_of caller (set xs k y) ≡ record (hands_of caller xs) { offers = with_hit (hands_of caller xs).offers k (hit_of caller turn number) })
      (hands_of caller (set xs k y) ≡ hands_of caller xs)
  offered_here turn number true own is =
      with_offer (hit_of caller turn number) (is ∙ ap (λ (c : ℕ). record x { offers = x.offers ++ hit_of c turn number ∷ [] }) own)
  offered_here turn number false own same = same_hands same

  taken_here : (r : Option Hit) → IfSome r (λ hit. y ≡ record x { takings = x.takings ++ hit ∷ [] })
      → IfSome r (λ hit. hands_of caller (set xs k y) ≡ record (hands_of caller xs) { takings = with_hit (hands_of caller xs).takings k hit })
  taken_here None is = tt
  taken_here (Some hit) is = with_taking hit is

  -- the same of hands that are known to be these
  pub offered : (hands : HandsView) (turn number : ℕ) (b : Bool) → hands_of caller xs ≡ hands → x.caller ≡ caller
      → MatchBool b (y ≡ record x { offers = x.offers ++ hit_of x.caller turn number ∷ [] }) (y ≡ x)
      → MatchBool b
      (hands_of caller (set xs k y) ≡ record hands { offers = with_hit hands.offers k (hit_of hands.caller turn number) })
      (hands_of caller (set xs k y) ≡ hands)
  offered hands turn number b hands_is own is =
      subst (λ (h : HandsView). MatchBool b
      (hands_of caller (set xs k y) ≡ record h { offers = with_hit h.offers k (hit_of h.caller turn number) })
      (hands_of caller (set xs k y) ≡ h))
      hands_is (offered_here turn number b own is)

  pub taken : (hands : HandsView) (r : Option Hit) → hands_of caller xs ≡ hands
      → IfSome r (λ hit. y ≡ record x { takings = x.takings ++ hit ∷ [] })
      → IfSome r (λ hit. hands_of caller (set xs k y) ≡ record hands { takings = with_hit hands.takings k hit })
  taken hands r hands_is is =
      subst (λ (h : HandsView). IfSome r (λ hit. hands_of caller (set xs k y) ≡ record h { takings = with_hit h.takings k hit })) hands_is (taken_here r is)

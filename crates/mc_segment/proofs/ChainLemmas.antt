-- Steps on the nodes of a list.
use Rattle.std.proofs.Common.{◌≡◌, ℕ, suc, ◌+◌, ◌-◌, ◌==◌, ◌≤◌, List, [], ◌∷◌, Bool, true, false, Option, Some, None, refl, sym, ap, ◌∙◌, subst, length, arith}
use Rattle.std.specs.Prelude.{if◌then◌else◌, is_some}
use Rattle.std.specs.Option.{option_map}
use Rattle.std.proofs.Common.{◌≢◌, inl, inr}
use Rattle.std.proofs.lemmas.{Bool.Decides.eqb_tells, Bool.false≢true, Bool.eq-eqb}
use Rattle.mc_item.specs.declared.lists.Entry.{Entry}
use Rattle.mc_rule.specs.Lists.{find, without, cost_sum}
use Rattle.mc_segment.specs.declared.arena.Node.{Node}
use Rattle.mc_segment.specs.Neighbours.{with_newer, with_older, points_to, end_of}
use Rattle.mc_segment.specs.Nodes.{node, first_number, last_from, node_at, lacks, distinct, walk, walked, IsChain}

-- the node with the number q, after the node with the number `at` got another older neighbour
abbrev pub apply_older : Option ℕ → Option ℕ → ℕ → Option Node → Option Node
apply_older at to q o = if points_to q at then option_map (with_older to) o else o

-- the node with the number q, after the node with the number `at` got another newer neighbour
abbrev pub apply_newer : Option ℕ → Option ℕ → ℕ → Option Node → Option Node
apply_newer at to q o = if points_to q at then option_map (with_newer to) o else o

abbrev pub lacks_name : Option ℕ → List Entry → Bool
lacks_name None es = true
lacks_name (Some a) es = lacks a es

pub both_of : (a b : Bool) → (if a then b else false) ≡ true → (a ≡ true) × (b ≡ true)
both_of true b h = (refl, h)
both_of false b h = absurd (false≢true h)

both_to : (a b : Bool) → a ≡ true → b ≡ true → (if a then b else false) ≡ true
both_to a b p q = ap (λ x. if x then b else false) p ∙ q

pub not_of : (a b : Bool) → (if a then false else b) ≡ true → (a ≡ false) × (b ≡ true)
not_of true b h = absurd (false≢true h)
not_of false b h = (refl, h)

pub node_lacks : (w : Option ℕ) (es : List Entry) (q : ℕ) → lacks q es ≡ true → node_at w es q ≡ None
node_lacks w [] q h = refl
node_lacks w (e ∷ es) q h =
    let p = not_of (e.number == q) (lacks q es) h in
    rw (p.0) (node_lacks (Some e.number) es q p.1)

pub node_entry : (w : Option ℕ) (es : List Entry) (q : ℕ) → option_map (λ n. n.entry) (node_at w es q) ≡ find q es
node_entry w [] q = refl
node_entry w (e ∷ es) q =
    let later = node_entry (Some e.number) es q in
    elim (e.number == q) as (λ (b : Bool). option_map (λ (n : Node). n.entry) (if b then Some (node e w (first_number es)) else node_at (Some e.number) es q) ≡ (if b then Some e else find q es))
    [ true ↦ refl | false ↦ later ]

-- the number before a list is told to its first node alone
pub node_head : (v w : Option ℕ) (es : List Entry) (q : ℕ) → node_at w es q ≡ apply_newer (first_number es) w q (node_at v es q)
node_head v w [] q = refl
node_head v w (e ∷ es) q =
    elim (e.number == q) as (λ (b : Bool). (if b then Some (node e w (first_number es)) else node_at (Some e.number) es q)
    ≡ (if b then option_map (with_newer w) (if b then Some (node e v (first_number es)) else node_at (Some e.number) es q) else (if b then
    Some (node e v (first_number es)) else node_at (Some e.number) es q)))
    [ true ↦ refl | false ↦ refl ]

pub by_eq : (a b : ℕ) (P : Bool → Type 0) → (a ≡ b → P true) → (a ≢ b → P false) → P (a == b)
by_eq a b P hit miss =
    elim (eqb_tells a b) [ inl p ↦ subst P (sym p.0) (hit p.1) | inr p ↦ subst P (sym p.0) (miss p.1) ]

pub itself : (a : ℕ) → (a == a) ≡ true
itself a = eq-eqb a a refl

-- the walk along a list's nodes
pub walk_along : (f : ℕ → Option Node) (w : Option ℕ) (es : List Entry) → distinct es ≡ true → ((q : ℕ) → lacks q es ≡ false → f q ≡ node_at w es q) → walk f (length es) (first_number es) ≡ es
walk_along f w [] d h = refl
walk_along f w (e ∷ es) d h =
    let p = both_of (lacks e.number es) (distinct es) d in
    let Q : Bool → Type 0 = λ b. (if b then false else lacks e.number es) ≡ false → f e.number ≡ (if b then Some (node e w (first_number es)) else node_at (Some e.number) es e.number) in
    let here : f e.number ≡ Some (node e w (first_number es)) = (subst Q (itself e.number) (h e.number)) refl in
    let later : (q : ℕ) → lacks q es ≡ false → f q ≡ node_at (Some e.number) es q =
    λ q l. by_eq e.number q (λ b. ((if b then false else lacks q es) ≡ false → f q ≡ (if b then Some (node e w (first_number es)) else node_at (Some e.number) es q)) → f q ≡ node_at (Some e.number) es q)
    (λ same k. absurd (false≢true (sym l ∙ (ap (λ x. lacks x es) (sym same) ∙ p.0))))
    (λ other k. k l)
    (h q) in
    ap (λ o. walked o (λ at. walk f (length es) at)) here ∙ ap (λ xs. e ∷ xs) (walk_along f (Some e.number) es p.1 later)

pub walk_is : (f : ℕ → Option Node) (n o : Option ℕ) (count bytes : ℕ) (es : List Entry) → IsChain f n o count bytes es → walk f count n ≡ es
walk_is f n o count bytes es c =
    ap (λ k. walk f k n) c.count_is ∙ (ap (walk f (length es)) c.newest_is ∙ walk_along f None es c.apart (λ q _. c.nodes q))

-- what is a chain of some list is one of the list that it walks along
pub closed : (f : ℕ → Option Node) (n o : Option ℕ) (count bytes : ℕ) (es : List Entry) → IsChain f n o count bytes es → IsChain f n o count bytes (walk f count n)
closed f n o count bytes es c =
    let P : List Entry → Type 0 = λ xs. IsChain f n o count bytes xs in
    subst P (sym (walk_is f n o count bytes es c)) c

pub chain_cong : (f g : ℕ → Option Node) (n o : Option ℕ) (count bytes : ℕ) (es : List Entry) → ((q : ℕ) → g q ≡ f q) → IsChain f n o count bytes es → IsChain g n o count bytes es
chain_cong f g n o count bytes es h c = record {
  nodes = λ q. h q ∙ c.nodes q;
  newest_is = c.newest_is;
  oldest_is = c.oldest_is;
  count_is = c.count_is;
  bytes_is = c.bytes_is;
  apart = c.apart;
}

push_last : (es : List Entry) (o : Option ℕ) → o ≡ last_from None es → (n : ℕ) → (end_of ((first_number es)) (Some n) (o)) ≡ last_from (Some n) es
push_last [] o h n = refl
push_last (x ∷ es) o h n = h

-- a number more at the head
pub push_chain : (f g : ℕ → Option Node) (n o : Option ℕ) (count bytes : ℕ) (es : List Entry) (e : Entry) → IsChain f n o count bytes es → lacks e.number es ≡ true
    → ((q : ℕ) → g q ≡ (if e.number == q then Some (node e None n) else apply_newer n (Some e.number) q (f q)))
    → IsChain g (Some e.number) (end_of (n) (Some e.number) (o)) (count + 1) (bytes + e.cost) (e ∷ es)
push_chain f g n o count bytes es e c fresh h = record {
  nodes = λ q. h q ∙ by_eq e.number q (λ b. (if b then Some (node e None n) else apply_newer n (Some e.number) q (f q)) ≡ (if b then Some (node e None (first_number es)) else node_at (Some e.number) es q))
      (λ same. ap (λ x. Some (node e None x)) c.newest_is)
      (λ other. ap (λ x. apply_newer x (Some e.number) q (f q)) c.newest_is ∙ (ap (apply_newer (first_number es) (Some e.number) q) (c.nodes q) ∙ sym (node_head None (Some e.number) es q)));
  newest_is = refl;
  oldest_is = ap (λ x. end_of (x) (Some e.number) (o)) c.newest_is ∙ push_last es o c.oldest_is e.number;
  count_is = omega (arith, c.count_is);
  bytes_is = omega (arith, c.bytes_is);
  apart = both_to _ _ fresh c.apart;
}

pub first_lacked : (es : List Entry) (k : ℕ) → lacks k es ≡ true → points_to k (first_number es) ≡ false
first_lacked [] k h = refl
first_lacked (e ∷ es) k h = (not_of (e.number == k) (lacks k es) h).0

-- what is told of the neighbours of a node: neither is a number that the list does not have
pub names_lacked : (w : Option ℕ) (es : List Entry) (m k : ℕ) (x : Node) → node_at w es m ≡ Some x → points_to k w ≡ false → lacks k es ≡ true → (points_to k x.newer ≡ false) × (points_to k x.older ≡ false)
names_lacked w [] m k x is a b = cc
names_lacked w (e ∷ es) m k x is a b =
    let p = not_of (e.number == k) (lacks k es) b in
    by_eq e.number m (λ t. (if t then Some (node e w (first_number es)) else node_at (Some e.number) es m) ≡ Some x → (points_to k x.newer ≡ false) × (points_to k x.older ≡ false))
    (λ same h.
    let at : node e w (first_number es) ≡ x = cc in
    (ap (λ (n : Node). points_to k n.newer) (sym at) ∙ a, ap (λ (n : Node). points_to k n.older) (sym at) ∙ first_lacked es k p.1))
    (λ other h. names_lacked (Some e.number) es m k x h p.0 p.1)
    is

pub some_none : {A : Type 0} {x : A} → None ≡ Some x → ⊥
some_none h = cc

-- the first number, once a number is taken out
taken_first : (w : Option ℕ) (es : List Entry) (m : ℕ) (x : Node) → node_at w es m ≡ Some x → first_number (without m es) ≡ (if points_to m (first_number es) then x.older else first_number es)
taken_first w [] m x is = cc
taken_first w (e ∷ es) m x is =
    by_eq e.number m (λ t. (if t then Some (node e w (first_number es)) else node_at (Some e.number) es m) ≡ Some x → first_number (if t then es else (e ∷ without m es)) ≡ (if t then x.older else Some e.number))
    (λ same h. let at : node e w (first_number es) ≡ x = cc in ap (λ (n : Node). n.older) at)
    (λ other h. refl)
    is

-- where the first number is not the one that is taken out, the number before the list is no neighbour
taken_names : (k : ℕ) (es : List Entry) (m : ℕ) (x : Node) → lacks k es ≡ true → distinct es ≡ true → node_at (Some k) es m ≡ Some x → points_to k x.newer ≡ points_to m (first_number es)
taken_names k [] m x l d is = cc
taken_names k (e ∷ es) m x l d is =
    let p = not_of (e.number == k) (lacks k es) l in
    by_eq e.number m (λ t. (if t then Some (node e (Some k) (first_number es)) else node_at (Some e.number) es m) ≡ Some x → points_to k x.newer ≡ t)
    (λ same h. let at : node e (Some k) (first_number es) ≡ x = cc in ap (λ (n : Node). points_to k n.newer) (sym at) ∙ itself k)
    (λ other h. (names_lacked (Some e.number) es m k x h p.0 p.1).0)
    is

older_misses : (w to : Option ℕ) (es : List Entry) (v : Option ℕ) (q : ℕ) → lacks_name w es ≡ true → apply_older w to q (node_at v es q) ≡ node_at v es q
older_misses None to es v q l = refl
older_misses (Some a) to es v q l =
    by_eq a q (λ t. (if t then option_map (with_older to) (node_at v es q) else node_at v es q) ≡ node_at v es q)
    (λ same. let n : node_at v es q ≡ None = node_lacks v es q (ap (λ k. lacks k es) (sym same) ∙ l) in ap (option_map (with_older to)) n ∙ sym n)
    (λ other. refl)

lacks_name_later : (w : Option ℕ) (e : Entry) (es : List Entry) → lacks_name w (e ∷ es) ≡ true → lacks_name w es ≡ true
lacks_name_later None e es l = refl
lacks_name_later (Some a) e es l = (not_of (e.number == a) (lacks a es) l).1

older_lacked : (w : Option ℕ) (es : List Entry) (m k : ℕ) (x : Node) → node_at w es m ≡ Some x → lacks k es ≡ true → points_to k x.older ≡ false
older_lacked w [] m k x is b = cc
older_lacked w (e ∷ es) m k x is b =
    let p = not_of (e.number == k) (lacks k es) b in
    by_eq e.number m (λ t. (if t then Some (node e w (first_number es)) else node_at (Some e.number) es m) ≡ Some x → points_to k x.older ≡ false)
    (λ same h. let at : node e w (first_number es) ≡ x = cc in ap (λ (n : Node). points_to k n.older) (sym at) ∙ first_lacked es k p.1)
    (λ other h. older_lacked (Some e.number) es m k x h p.1)
    is

pub not_equal : (a b : ℕ) → a ≢ b → (a == b) ≡ false
not_equal a b h = by_eq a b (λ t. t ≡ false) (λ same. absurd (h same)) (λ _. refl)

pushed : (b : Bool) (e : Entry) (w first older : Option ℕ) → (if b then Some (node e w older) else Some (node e w first)) ≡ (if b then option_map (with_older older) (Some (node e w first)) else Some (node e w first))
pushed true e w first older = refl
pushed false e w first older = refl

fixed : (e : Entry) (w older first : Option ℕ) (b c : Bool) (to : Option ℕ) → c ≡ false
    → Some (node e w (if b then older else first))
    ≡ (if c then option_map (with_newer to) (if b then Some (node e w older) else Some (node e w first)) else (if b then
    Some (node e w older) else Some (node e w first)))
fixed e w older first true c to h = ap (λ (x : Bool). if x then option_map (with_newer to) (Some (node e w older)) else Some (node e w older)) (sym h)
fixed e w older first false c to h = ap (λ (x : Bool). if x then option_map (with_newer to) (Some (node e w first)) else Some (node e w first)) (sym h)

taken_before : (w : Option ℕ) (es : List Entry) (m q : ℕ) (e : Entry) (x : Node) → lacks e.number es ≡ true → distinct es ≡ true → e.number ≢ m → e.number ≡ q → node_at (Some e.number) es m ≡ Some x
    → Some (node e w (first_number (without m es))) ≡ (if m == q then None else apply_newer x.older x.newer q (apply_older x.newer x.older q (Some (node e w (first_number es)))))
taken_before w es m q e x l d other same h =
    let b = points_to m (first_number es) in
    let one : Some (node e w (first_number (without m es))) ≡ Some (node e w (if b then x.older else first_number es)) = ap (λ f. Some (node e w f)) (taken_first (Some e.number) es m x h) in
    let newer : points_to q x.newer ≡ b = ap (λ k. points_to k x.newer) (sym same) ∙ taken_names e.number es m x l d h in
    let older : points_to q x.older ≡ false = ap (λ k. points_to k x.older) (sym same) ∙ older_lacked (Some e.number) es m e.number x h l in
    let apart : (m == q) ≡ false = not_equal m q (λ k. other (same ∙ sym k)) in
    one ∙ (fixed e w x.older (first_number es) b (points_to q x.older) x.newer older
    ∙ (ap (λ (t : Bool). if points_to q x.older then option_map (with_newer x.newer) (if t then
    Some (node e w x.older) else Some (node e w (first_number es))) else (if t then Some (node e w x.older) else Some (node e w (first_number es))))
    (sym newer)
    ∙ (ap (λ (o : Option Node). apply_newer x.older x.newer q o) (pushed (points_to q x.newer) e w (first_number es) x.older)
    ∙ ap (λ (t : Bool). if t then None else apply_newer x.older x.newer q (apply_older x.newer x.older q (Some (node e w (first_number es)))))
    (sym apart))))

taken_head : (w : Option ℕ) (es : List Entry) (q : ℕ) (e : Entry) → lacks e.number es ≡ true → lacks_name w (e ∷ es) ≡ true
    → node_at w es q ≡ (if e.number == q then None else apply_newer (first_number es) w q (apply_older w (first_number es) q (if e.number == q then Some (node e w (first_number es)) else node_at (Some e.number) es q)))
taken_head w es q e l v =
    by_eq e.number q (λ t. node_at w es q ≡ (if t then None else apply_newer (first_number es) w q (apply_older w (first_number es) q (if t then Some (node e w (first_number es)) else node_at (Some e.number) es q))))
    (λ same. node_lacks w es q (ap (λ k. lacks k es) (sym same) ∙ l))
    (λ other. node_head (Some e.number) w es q ∙ ap (apply_newer (first_number es) w q) (sym (older_misses w (first_number es) es (Some e.number) q (lacks_name_later w e es v))))

-- the nodes, once a number is taken out
pub taken_nodes : (w : Option ℕ) (es : List Entry) (m q : ℕ) (x : Node) → distinct es ≡ true → lacks_name w es ≡ true → node_at w es m ≡ Some x
    → node_at w (without m es) q ≡ (if m == q then None else apply_newer x.older x.newer q (apply_older x.newer x.older q (node_at w es q)))
taken_nodes w [] m q x d l is = cc
taken_nodes w (e ∷ es) m q x d l is =
    let p = both_of (lacks e.number es) (distinct es) d in
    by_eq e.number m (λ t. (if t then Some (node e w (first_number es)) else node_at (Some e.number) es m) ≡ Some x
    → node_at w (if t then es else (e ∷ without m es)) q ≡ (if m == q then
    None else apply_newer x.older x.newer q (apply_older x.newer x.older q (if e.number == q then
    Some (node e w (first_number es)) else node_at (Some e.number) es q))))
    (λ same h.
    let at : node e w (first_number es) ≡ x = cc in
    let R : Node → Type 0 = λ y. node_at w es q
    ≡ (if m == q then None else apply_newer y.older y.newer q (apply_older y.newer y.older q (if e.number == q then
    Some (node e w (first_number es)) else node_at (Some e.number) es q))) in
    subst R at (
    let S : ℕ → Type 0 = λ k. node_at w es q
    ≡ (if k == q then None else apply_newer (first_number es) w q (apply_older w (first_number es) q (if e.number == q then
    Some (node e w (first_number es)) else node_at (Some e.number) es q))) in
    subst S same (taken_head w es q e p.0 l)
    ))
    (λ other h.
    by_eq e.number q (λ t. (if t then Some (node e w (first_number (without m es))) else node_at (Some e.number) (without m es) q)
    ≡ (if m == q then None else apply_newer x.older x.newer q (apply_older x.newer x.older q (if t then
    Some (node e w (first_number es)) else node_at (Some e.number) es q))))
    (λ same. taken_before w es m q e x p.0 p.1 other same h)
    (λ away. taken_nodes (Some e.number) es m q x p.1 p.0 h))
    is

ends_there : (w : Option ℕ) (e : Entry) (es : List Entry) → last_from w es ≡ (end_of ((first_number es)) (w) (last_from (Some e.number) es))
ends_there w e [] = refl
ends_there w e (x ∷ es) = refl

newer_some : (k : ℕ) (es : List Entry) (m : ℕ) (x : Node) → node_at (Some k) es m ≡ Some x → is_some x.newer ≡ true
newer_some k [] m x is = cc
newer_some k (e ∷ es) m x is =
    by_eq e.number m (λ t. (if t then Some (node e (Some k) (first_number es)) else node_at (Some e.number) es m) ≡ Some x → is_some x.newer ≡ true)
    (λ same h. let at : node e (Some k) (first_number es) ≡ x = cc in ap (λ (y : Node). is_some y.newer) (sym at))
    (λ other h. newer_some e.number es m x h)
    is

is_after : (o older : Option ℕ) (k : ℕ) → is_some o ≡ true → Some k ≡ (end_of (o) (older) (Some k))
is_after None older k h = absurd (false≢true h)
is_after (Some _) older k h = refl

taken_last : (w : Option ℕ) (es : List Entry) (m : ℕ) (x : Node) → node_at w es m ≡ Some x → last_from w (without m es) ≡ (end_of (x.older) (x.newer) (last_from w es))
taken_last w [] m x is = cc
taken_last w (e ∷ es) m x is =
    by_eq e.number m (λ t. (if t then Some (node e w (first_number es)) else node_at (Some e.number) es m) ≡ Some x
    → last_from w (if t then es else (e ∷ without m es)) ≡ (end_of (x.older) (x.newer) (last_from (Some e.number) es)))
    (λ same h. let at : node e w (first_number es) ≡ x = cc in ends_there w e es ∙ ap (λ (y : Node). end_of (y.older) (y.newer) (last_from (Some e.number) es)) at)
    (λ other h. taken_last (Some e.number) es m x h)
    is

taken_newest : (es : List Entry) (m : ℕ) (x : Node) → node_at None es m ≡ Some x → first_number (without m es) ≡ (end_of (x.newer) (x.older) (first_number es))
taken_newest [] m x is = cc
taken_newest (e ∷ es) m x is =
    by_eq e.number m (λ t. (if t then Some (node e None (first_number es)) else node_at (Some e.number) es m) ≡ Some x → first_number (if t then es else (e ∷ without m es)) ≡ (end_of (x.newer) (x.older) (Some e.number)))
    (λ same h. let at : node e None (first_number es) ≡ x = cc in ap (λ (y : Node). end_of (y.newer) (y.older) (Some e.number)) at)
    (λ other h. is_after x.newer x.older e.number (newer_some e.number es m x h))
    is

pub taken_length : (w : Option ℕ) (es : List Entry) (m : ℕ) (x : Node) → node_at w es m ≡ Some x → (length (without m es) + 1 ≡ length es) × (cost_sum (without m es) + x.entry.cost ≡ cost_sum es)
taken_length w [] m x is = cc
taken_length w (e ∷ es) m x is =
    by_eq e.number m (λ t. (if t then Some (node e w (first_number es)) else node_at (Some e.number) es m) ≡ Some x
    → (length (if t then es else (e ∷ without m es)) + 1 ≡ suc (length es))
    × (cost_sum (if t then es else (e ∷ without m es)) + x.entry.cost ≡ e.cost + cost_sum es))
    (λ same h.
    let at : node e w (first_number es) ≡ x = cc in
    let cost : e.cost ≡ x.entry.cost = ap (λ (y : Node). y.entry.cost) at in
    (omega arith, omega arith))
    (λ other h. let p = taken_length (Some e.number) es m x h in (omega arith, omega arith))
    is

lacks_without : (es : List Entry) (k m : ℕ) → lacks k es ≡ true → lacks k (without m es) ≡ true
lacks_without [] k m h = refl
lacks_without (e ∷ es) k m h =
    let p = not_of (e.number == k) (lacks k es) h in
    let later = lacks_without es k m p.1 in
    elim (e.number == m) as (λ (t : Bool). lacks k (if t then es else (e ∷ without m es)) ≡ true)
    [ true ↦ p.1 | false ↦ ap (λ (b : Bool). if b then false else lacks k (without m es)) p.0 ∙ later ]

distinct_without : (es : List Entry) (m : ℕ) → distinct es ≡ true → distinct (without m es) ≡ true
distinct_without [] m h = refl
distinct_without (e ∷ es) m h =
    let p = both_of (lacks e.number es) (distinct es) h in
    let later = distinct_without es m p.1 in
    elim (e.number == m) as (λ (t : Bool). distinct (if t then es else (e ∷ without m es)) ≡ true)
    [ true ↦ p.1 | false ↦ both_to _ _ (lacks_without es e.number m p.0) later ]

nothing : (a b : Bool) (F G : Node → Node) → (if b then option_map G (if a then option_map F None else None) else (if a then option_map F None else None)) ≡ None
nothing true true F G = refl
nothing true false F G = refl
nothing false true F G = refl
nothing false false F G = refl

gone : (b : Bool) (x : Node) (q : ℕ) (o : Option Node) → apply_newer x.older x.newer q (apply_older x.newer x.older q (if b then None else o))
    ≡ (if b then None else apply_newer x.older x.newer q (apply_older x.newer x.older q o))
gone true x q o = nothing (points_to q x.newer) (points_to q x.older) (with_older x.older) (with_newer x.newer)
gone false x q o = refl

-- a number is taken out
pub take_chain : (f g : ℕ → Option Node) (n o : Option ℕ) (count bytes : ℕ) (es : List Entry) (m : ℕ) (x : Node) → IsChain f n o count bytes es → f m ≡ Some x
    → ((q : ℕ) → g q ≡ apply_newer x.older x.newer q (apply_older x.newer x.older q (if m == q then None else f q)))
    → IsChain g (end_of (x.newer) (x.older) (n)) (end_of (x.older) (x.newer) (o)) (count - 1) (bytes - x.entry.cost) (without m es)
take_chain f g n o count bytes es m x c at h =
    let here : node_at None es m ≡ Some x = sym (c.nodes m) ∙ at in
    let size = taken_length None es m x here in record {
      nodes = λ q. h q ∙ (gone (m == q) x q (f q) ∙ (ap (λ y. if m == q then None else apply_newer x.older x.newer q (apply_older x.newer x.older q y)) (c.nodes q) ∙ sym (taken_nodes None es m q x c.apart refl here)));
      newest_is = ap (λ y. end_of (x.newer) (x.older) (y)) c.newest_is ∙ sym (taken_newest es m x here);
      oldest_is = ap (λ y. end_of (x.older) (x.newer) (y)) c.oldest_is ∙ sym (taken_last None es m x here);
      count_is = omega (arith, c.count_is, size);
      bytes_is = omega (arith, c.bytes_is, size);
      apart = distinct_without es m c.apart;
    }

pub without_absent : (m : ℕ) (es : List Entry) → find m es ≡ None → without m es ≡ es
without_absent m [] h = refl
without_absent m (e ∷ es) h =
    by_eq e.number m (λ t. (if t then Some e else find m es) ≡ None → (if t then es else (e ∷ without m es)) ≡ (e ∷ es))
    (λ same k. absurd (some_none (sym k)))
    (λ other k. ap (λ xs. e ∷ xs) (without_absent m es k))
    h

-- what a chain says of a number that has no node
pub absent : (f : ℕ → Option Node) (n o : Option ℕ) (count bytes : ℕ) (es : List Entry) (m : ℕ) → IsChain f n o count bytes es → f m ≡ None → (find m es ≡ None) × (without m es ≡ es)
absent f n o count bytes es m c at =
    let none : find m es ≡ None = sym (node_entry None es m) ∙ ap (option_map (λ (x : Node). x.entry)) (sym (c.nodes m) ∙ at) in
    (none, without_absent m es none)

pub cost_le : (f : ℕ → Option Node) (n o : Option ℕ) (count bytes : ℕ) (es : List Entry) (m : ℕ) (x : Node) → IsChain f n o count bytes es → f m ≡ Some x → x.entry.cost ≤ bytes
cost_le f n o count bytes es m x c at =
    let size = taken_length None es m x (sym (c.nodes m) ∙ at) in omega (arith, c.bytes_is, size)

both_not : (a b : Bool) → a ≡ false → b ≡ true → (if a then false else b) ≡ true
both_not a b p q = ap (λ x. if x then false else b) p ∙ q

pub lacks_absent : (m : ℕ) (es : List Entry) → find m es ≡ None → lacks m es ≡ true
lacks_absent m [] h = refl
lacks_absent m (e ∷ es) h =
    by_eq e.number m (λ t. (if t then Some e else find m es) ≡ None → (if t then false else lacks m es) ≡ true)
    (λ same k. absurd (some_none (sym k)))
    (λ other k. lacks_absent m es k)
    h

-- The links of a list from its tail, one after the other.
use Rattle.std.proofs.Common.{◌≡◌, ◌+◌, ℕ, zero, suc, List, [], ◌∷◌, ◌++◌, Some, None, sym, ap, ◌∙◌, take, reverse, map, arith, append_assoc}
use Rattle.std.specs.Prelude.{slice_get}
use Rattle.mc_item.specs.declared.{item.ClassNo.ClassNo, item.Link.Link, lists.Entry.Entry}
use Rattle.mc_rule.specs.Lists.{from_tail}
use Rattle.mc_crawl.specs.Snapshot.{link_of_entry, links_from_tail}

none_some : {A : Type 0} {x : A} → None ≡ Some x → ⊥
none_some h = cc

some_same : {A : Type 0} (a b : A) → Some a ≡ Some b → a ≡ b
some_same a b h = cc

take_next : (class : ClassNo) (rs : List Entry) (j : ℕ) (e : Entry) → slice_get rs j ≡ Some e → take (suc j) (map (link_of_entry class) rs) ≡ take j (map (link_of_entry class) rs) ++ link_of_entry class e ∷ []
take_next class [] j e h = absurd (none_some h)
take_next class (x ∷ rs) zero e h = ap (λ (y : Entry). link_of_entry class y ∷ []) (some_same x e h)
take_next class (x ∷ rs) (suc j) e h = ap (λ (ls : List Link). link_of_entry class x ∷ ls) (take_next class rs j e h)

-- one link more from the tail
link_more : (class : ClassNo) (es : List Entry) (j : ℕ) (e : Entry) → from_tail es j ≡ Some e → take (j + 1) (links_from_tail class es) ≡ take j (links_from_tail class es) ++ link_of_entry class e ∷ []
link_more class es j e h =
    let more : j + 1 ≡ suc j = omega arith in
    ap (λ (k : ℕ). take k (links_from_tail class es)) more ∙ take_next class (reverse es) j e h

-- the links so far, with that of the next entry behind them
pub link_pushed : (class number : ClassNo) (es : List Entry) (old now new : List Link) (j : ℕ) (e : Entry) → number ≡ class → from_tail es j ≡ Some e
    → now ≡ old ++ take j (links_from_tail class es) → new ≡ now ++ link_of_entry number e ∷ [] → new ≡ old ++ take (j + 1) (links_from_tail class es)
link_pushed class number es old now new j e is here so_far pushed =
    pushed
    ∙ (ap (λ (n : ClassNo). now ++ link_of_entry n e ∷ []) is
    ∙ (ap (λ (ls : List Link). ls ++ link_of_entry class e ∷ []) so_far
    ∙ (append_assoc old (take j (links_from_tail class es)) (link_of_entry class e ∷ [])
    ∙ ap (λ (ls : List Link). old ++ ls) (sym (link_more class es j e here)))))

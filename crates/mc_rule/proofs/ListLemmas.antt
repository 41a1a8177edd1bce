-- What each event of a class does to the entry of a number.
use Rattle.std.proofs.Common.{◌≡◌, ◌≢◌, ℕ, ◌+◌, ◌-◌, ◌==◌, ◌≤◌, List, [], ◌∷◌, Bool, false, Option, Some, None, refl, sym, ap, ◌∙◌, arith}
use Rattle.std.specs.Prelude.{if◌then◌else◌}
use Rattle.std.proofs.lemmas.Bool.{false≢true}
use Rattle.mc_item.specs.declared.{class_event.ClassEvent.ClassEvent, class_event.Why.Why, lists.Entry.Entry, lists.Seg.Seg}
use Rattle.mc_item.specs.declared.class_event.ClassEvent.TheVariants as events
use Rattle.mc_item.specs.declared.lists.Seg.TheVariants.{Hot, Warm, Cold, Temp}
use Rattle.mc_rule.proofs.TestLemmas.{by_eq, itself, none_some, not_equal, some_same}
use Rattle.mc_rule.specs.Lawful.{names}
use Rattle.mc_rule.specs.Lists.{Lists, entry, find, found, found_in, linked, list_of, lists_after, moved, moved_entry, time_after, times, times_in, unlinked, with_list, without}

-- ---- one list

times_none : (n : ℕ) (es : List Entry) → times n es ≡ 0 → find n es ≡ None
times_none n [] h = refl
times_none n (e ∷ es) h =
    by_eq e.number n (λ b. (if b then 1 else 0) + times n es ≡ 0 → (if b then Some e else find n es) ≡ None)
    (λ same k. absurd (omega arith))
    (λ other k. times_none n es (omega arith))
    h

find_times : (n : ℕ) (es : List Entry) (x : Entry) → find n es ≡ Some x → 1 ≤ times n es
find_times n [] x h = absurd (none_some h)
find_times n (e ∷ es) x h =
    by_eq e.number n (λ b. (if b then Some e else find n es) ≡ Some x → 1 ≤ (if b then 1 else 0) + times n es)
    (λ same k. omega arith)
    (λ other k. let later = find_times n es x k in omega arith)
    h

pub find_number : (n : ℕ) (es : List Entry) (x : Entry) → find n es ≡ Some x → x.number ≡ n
find_number n [] x h = absurd (none_some h)
find_number n (e ∷ es) x h =
    by_eq e.number n (λ b. (if b then Some e else find n es) ≡ Some x → x.number ≡ n)
    (λ same k. ap (λ (y : Entry). y.number) (sym (some_same e x k)) ∙ same)
    (λ other k. find_number n es x k)
    h

times_head : (n : ℕ) (e : Entry) (es : List Entry) → e.number ≡ n → times n (e ∷ es) ≡ 1 + times n es
times_head n e es same = ap (λ (b : Bool). (if b then 1 else 0) + times n es) (ap (λ k. k == n) same ∙ itself n)

times_other : (n : ℕ) (e : Entry) (es : List Entry) → e.number ≢ n → times n (e ∷ es) ≡ times n es
times_other n e es other =
    let one : times n (e ∷ es) ≡ 0 + times n es = ap (λ (b : Bool). (if b then 1 else 0) + times n es) (not_equal e.number n other) in
    omega arith

find_head : (n : ℕ) (e : Entry) (es : List Entry) → e.number ≡ n → find n (e ∷ es) ≡ Some e
find_head n e es same = ap (λ (b : Bool). if b then Some e else find n es) (ap (λ k. k == n) same ∙ itself n)

find_other : (n : ℕ) (e : Entry) (es : List Entry) → e.number ≢ n → find n (e ∷ es) ≡ find n es
find_other n e es other = ap (λ (b : Bool). if b then Some e else find n es) (not_equal e.number n other)

times_without : (n : ℕ) (es : List Entry) → times n (without n es) ≡ times n es - 1
times_without n [] = refl
times_without n (e ∷ es) =
    by_eq e.number n (λ b. times n (if b then es else (e ∷ without n es)) ≡ (if b then 1 else 0) + times n es - 1)
    (λ same. omega arith)
    (λ other. let later = times_without n es in let here = times_other n e (without n es) other in omega arith)

times_without_other : (n m : ℕ) (es : List Entry) → m ≢ n → times n (without m es) ≡ times n es
times_without_other n m [] other = refl
times_without_other n m (e ∷ es) other =
    by_eq e.number m (λ b. times n (if b then es else (e ∷ without m es)) ≡ times n (e ∷ es))
    (λ same. sym (times_other n e es (λ k. other (sym same ∙ k))))
    (λ apart. ap (λ (k : ℕ). (if e.number == n then 1 else 0) + k) (times_without_other n m es other))

find_without_other : (n m : ℕ) (es : List Entry) → m ≢ n → find n (without m es) ≡ find n es
find_without_other n m [] other = refl
find_without_other n m (e ∷ es) other =
    by_eq e.number m (λ b. find n (if b then es else (e ∷ without m es)) ≡ find n (e ∷ es))
    (λ same. sym (find_other n e es (λ k. other (sym same ∙ k))))
    (λ apart. ap (λ (o : Option Entry). if e.number == n then Some e else o) (find_without_other n m es other))

-- ---- four lists

list_there : (l : Lists) (s : Seg) (es : List Entry) → list_of (with_list l s es) s ≡ es
list_there l Hot es = refl
list_there l Warm es = refl
list_there l Cold es = refl
list_there l Temp es = refl

times_with : (n : ℕ) (l : Lists) (s : Seg) (es : List Entry) → times_in n (with_list l s es) + times n (list_of l s) ≡ times_in n l + times n es
times_with n l Hot es = omega arith
times_with n l Warm es = omega arith
times_with n l Cold es = omega arith
times_with n l Temp es = omega arith

times_part : (n : ℕ) (l : Lists) (s : Seg) → times n (list_of l s) ≤ times_in n l
times_part n l Hot = omega arith
times_part n l Warm = omega arith
times_part n l Cold = omega arith
times_part n l Temp = omega arith

found_by : {a b c d x y z w : Option Entry} → a ≡ x → b ≡ y → c ≡ z → d ≡ w
    → found_in Hot a (found_in Warm b (found_in Cold c (found_in Temp d None))) ≡ found_in Hot x (found_in Warm y (found_in Cold z (found_in Temp w None)))
found_by p q r s = cc

found_with : (n : ℕ) (l : Lists) (s : Seg) (es : List Entry) → find n es ≡ find n (list_of l s) → found n (with_list l s es) ≡ found n l
found_with n l Hot es h = found_by h refl refl refl
found_with n l Warm es h = found_by refl h refl refl
found_with n l Cold es h = found_by refl refl h refl
found_with n l Temp es h = found_by refl refl refl h

-- a number that stands nowhere isn't found
pub nowhere : (n : ℕ) (l : Lists) → times_in n l ≡ 0 → found n l ≡ None
nowhere n l none =
    found_by (times_none n l.hot (omega arith)) (times_none n l.warm (omega arith)) (times_none n l.cold (omega arith)) (times_none n l.temp (omega arith))

-- a number that stands once is found where it stands
pub found_there : (n : ℕ) (l : Lists) (s : Seg) (x : Entry) → find n (list_of l s) ≡ Some x → times_in n l ≤ 1 → found n l ≡ Some (s, x)
found_there n l Hot x h once = found_by h refl refl refl
found_there n l Warm x h once =
    let here = find_times n l.warm x h in
    found_by (times_none n l.hot (omega arith)) h refl refl
found_there n l Cold x h once =
    let here = find_times n l.cold x h in
    found_by (times_none n l.hot (omega arith)) (times_none n l.warm (omega arith)) h refl
found_there n l Temp x h once =
    let here = find_times n l.temp x h in
    found_by (times_none n l.hot (omega arith)) (times_none n l.warm (omega arith)) (times_none n l.cold (omega arith)) h

-- ---- events of another number

unlinked_other : (n m : ℕ) (l : Lists) → m ≢ n → found n (unlinked m l) ≡ found n l
unlinked_other n m l other =
    found_by (find_without_other n m l.hot other) (find_without_other n m l.warm other) (find_without_other n m l.cold other) (find_without_other n m l.temp other)

unlinked_times_other : (n m : ℕ) (l : Lists) → m ≢ n → times_in n (unlinked m l) ≡ times_in n l
unlinked_times_other n m l other =
    let a = times_without_other n m l.hot other in
    let b = times_without_other n m l.warm other in
    let c = times_without_other n m l.cold other in
    let d = times_without_other n m l.temp other in
    omega arith

linked_other : (n : ℕ) (s : Seg) (x : Entry) (l : Lists) → x.number ≢ n → found n (linked s x l) ≡ found n l
linked_other n s x l other = found_with n l s (x ∷ list_of l s) (find_other n x (list_of l s) other)

linked_times_other : (n : ℕ) (s : Seg) (x : Entry) (l : Lists) → x.number ≢ n → times_in n (linked s x l) ≡ times_in n l
linked_times_other n s x l other =
    let a = times_with n l s (x ∷ list_of l s) in
    let b = times_other n x (list_of l s) other in
    omega arith

moved_other : (n m : ℕ) (from_seg to_seg : Seg) (why : Why) (moment : ℕ) (l : Lists) → m ≢ n → found n (moved m from_seg to_seg why moment l) ≡ found n l
moved_other n m from_seg to_seg why moment l other = by (find m (list_of l from_seg)) refl
  where
    by : (o : Option Entry) → find m (list_of l from_seg) ≡ o → found n (moved_entry o m from_seg to_seg why moment l) ≡ found n l
    by None is = refl
    by (Some x) is =
        linked_other n to_seg (record x { time = time_after why moment x.time }) (with_list l from_seg (without m (list_of l from_seg)))
        (λ k. other (sym (find_number m (list_of l from_seg) x is) ∙ k))
        ∙ found_with n l from_seg (without m (list_of l from_seg)) (find_without_other n m (list_of l from_seg) other)

moved_times_other : (n m : ℕ) (from_seg to_seg : Seg) (why : Why) (moment : ℕ) (l : Lists) → m ≢ n → times_in n (moved m from_seg to_seg why moment l) ≡ times_in n l
moved_times_other n m from_seg to_seg why moment l other = by (find m (list_of l from_seg)) refl
  where
    by : (o : Option Entry) → find m (list_of l from_seg) ≡ o → times_in n (moved_entry o m from_seg to_seg why moment l) ≡ times_in n l
    by None is = refl
    by (Some x) is =
        let a = linked_times_other n to_seg (record x { time = time_after why moment x.time }) (with_list l from_seg (without m (list_of l from_seg))) (λ k. other (sym (find_number m (list_of l from_seg) x is) ∙ k)) in
        let b = times_with n l from_seg (without m (list_of l from_seg)) in
        let c = times_without_other n m (list_of l from_seg) other in
        a ∙ omega arith

-- an event that doesn't name a number leaves its entry
pub other_stays : (n : ℕ) (l : Lists) (e : ClassEvent) → names n e ≡ false → found n (lists_after l e) ≡ found n l
other_stays n l (events.Linked e) h = linked_other n e.seg (entry e.number e.key e.cost e.moment) l (λ k. false≢true (sym h ∙ (ap (λ m. m == n) k ∙ itself n)))
other_stays n l (events.Unlinked e) h = unlinked_other n e.number l (λ k. false≢true (sym h ∙ (ap (λ m. m == n) k ∙ itself n)))
other_stays n l (events.Shifted e) h = moved_other n e.number e.from_seg e.to_seg e.why e.moment l (λ k. false≢true (sym h ∙ (ap (λ m. m == n) k ∙ itself n)))
other_stays n l (events.Evicted e) h = unlinked_other n e.number l (λ k. false≢true (sym h ∙ (ap (λ m. m == n) k ∙ itself n)))
other_stays n l (events.Reclaimed e) h = unlinked_other n e.number l (λ k. false≢true (sym h ∙ (ap (λ m. m == n) k ∙ itself n)))
other_stays n l (events.Surveyed e) h = refl
other_stays n l (events.Refused e) h = refl
other_stays n l (events.Limited e) h = refl

-- and how often it stands
pub other_times : (n : ℕ) (l : Lists) (e : ClassEvent) → names n e ≡ false → times_in n (lists_after l e) ≡ times_in n l
other_times n l (events.Linked e) h = linked_times_other n e.seg (entry e.number e.key e.cost e.moment) l (λ k. false≢true (sym h ∙ (ap (λ m. m == n) k ∙ itself n)))
other_times n l (events.Unlinked e) h = unlinked_times_other n e.number l (λ k. false≢true (sym h ∙ (ap (λ m. m == n) k ∙ itself n)))
other_times n l (events.Shifted e) h = moved_times_other n e.number e.from_seg e.to_seg e.why e.moment l (λ k. false≢true (sym h ∙ (ap (λ m. m == n) k ∙ itself n)))
other_times n l (events.Evicted e) h = unlinked_times_other n e.number l (λ k. false≢true (sym h ∙ (ap (λ m. m == n) k ∙ itself n)))
other_times n l (events.Reclaimed e) h = unlinked_times_other n e.number l (λ k. false≢true (sym h ∙ (ap (λ m. m == n) k ∙ itself n)))
other_times n l (events.Surveyed e) h = refl
other_times n l (events.Refused e) h = refl
other_times n l (events.Limited e) h = refl

-- ---- events of the number

-- a number that is linked stands once more
pub linked_times : (n : ℕ) (s : Seg) (x : Entry) (l : Lists) → x.number ≡ n → times_in n (linked s x l) ≡ times_in n l + 1
linked_times n s x l same =
    let a = times_with n l s (x ∷ list_of l s) in
    let b = times_head n x (list_of l s) same in
    omega arith

-- and is found, where it stood nowhere
pub linked_found : (n : ℕ) (s : Seg) (x : Entry) (l : Lists) → x.number ≡ n → times_in n l ≡ 0 → found n (linked s x l) ≡ Some (s, x)
linked_found n s x l same none =
    let a = linked_times n s x l same in
    found_there n (linked s x l) s x (ap (find n) (list_there l s (x ∷ list_of l s)) ∙ find_head n x (list_of l s) same) (omega arith)

-- a number that is taken out stands nowhere, where it stood once
pub unlinked_times : (n : ℕ) (l : Lists) → times_in n l ≤ 1 → times_in n (unlinked n l) ≡ 0
unlinked_times n l once =
    let a = times_without n l.hot in
    let b = times_without n l.warm in
    let c = times_without n l.cold in
    let d = times_without n l.temp in
    omega arith

-- a number that is moved out of a list that it is in stands as often
pub moved_times : (n : ℕ) (from_seg to_seg : Seg) (why : Why) (moment : ℕ) (l : Lists) (x : Entry) → find n (list_of l from_seg) ≡ Some x
    → times_in n (moved n from_seg to_seg why moment l) ≡ times_in n l
moved_times n from_seg to_seg why moment l x is =
    let here = find_times n (list_of l from_seg) x is in
    let a = linked_times n to_seg (record x { time = time_after why moment x.time }) (with_list l from_seg (without n (list_of l from_seg))) (find_number n (list_of l from_seg) x is) in
    let b = times_with n l from_seg (without n (list_of l from_seg)) in
    let c = times_without n (list_of l from_seg) in
    let d = times_part n l from_seg in
    ap (λ (o : Option Entry). times_in n (moved_entry o n from_seg to_seg why moment l)) is ∙ (a ∙ omega arith)

-- and is found with its new time, where it stood once
pub moved_found : (n : ℕ) (from_seg to_seg : Seg) (why : Why) (moment : ℕ) (l : Lists) (x : Entry) → find n (list_of l from_seg) ≡ Some x → times_in n l ≤ 1
    → found n (moved n from_seg to_seg why moment l) ≡ Some (to_seg, record x { time = time_after why moment x.time })
moved_found n from_seg to_seg why moment l x is once =
    let here = find_times n (list_of l from_seg) x is in
    let b = times_with n l from_seg (without n (list_of l from_seg)) in
    let c = times_without n (list_of l from_seg) in
    let d = times_part n l from_seg in
    ap (λ (o : Option Entry). found n (moved_entry o n from_seg to_seg why moment l)) is
    ∙ linked_found n to_seg (record x { time = time_after why moment x.time }) (with_list l from_seg (without n (list_of l from_seg)))
    (find_number n (list_of l from_seg) x is) (omega arith)

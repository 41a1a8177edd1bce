-- A split and a join keep the rule, and the board opens by it.
use Rattle.std.proofs.Common.{◌≡◌, ◌≢◌, ℕ, zero, suc, ◌<◌, List, [], ◌∷◌, length, set, cond, eqb, refl, sym, ap, ◌∙◌, subst, ⊎_elim, arith, eq-eqb, ne_eqb, replicate}
use Rattle.std.proofs.lemmas.List.{length-replicate}
use Rattle.std.specs.Prelude.{◌+◌, slice_index}
use mathlib.Core.Option.{Option, none, some, some-injective, some-ne-none}
use lib.ListN.{get_elem?}
use Rattle.atomic_table.specs.Table.{Splits, Joins}
use Rattle.atomic_table.proofs.Lists.{at_set}
use Rattle.mc_item.specs.declared.event.Event.{Event}
use Rattle.mc_board.specs.declared.{rule.Account.Account, rule.Counts.Counts, rule.Known.Known, rule.Look.Look, rule.Owned.Owned, rule.Root.Root, rule.Span.Span}
use Rattle.mc_board.specs.declared.{rule.Stage.Stage, rule.View.View}
use Rattle.mc_board.specs.declared.rule.Look.TheVariants as looks
use Rattle.mc_board.specs.declared.rule.Stage.TheVariants as stages
use Rattle.mc_board.specs.declared.rule.View.TheVariants as views
use mathlib.Core.List.{IsPrefix}
use Rattle.mc_board.specs.{Accounts.first_caller, Accounts.with_span, Accounts.IsCopy, Views.locks_of, Views.first_word, Views.words_of}
use Rattle.mc_board.specs.Board.{Ledger, IsFree, IsOwner, IsReading, IsToken, Knows, Reads}
use Rattle.mc_board.specs.Steps.{opening_of, newcomer, owned_told, owned_shown, root_after, next_owner, copy_of, told_of, hearing, entered, entered_copy, showing}
use Rattle.mc_board.proofs.PrefixLemmas.{at_end, prefix_nil, prefix_self, prefix_trans, same_or_not}
use Rattle.mc_board.proofs.{AccountLemmas.IsAccount-longer, SeenLemmas.IsBehind-blind, SeenLemmas.IsBehind-with_seen}
use Rattle.mc_board.proofs.RuleLemmas.{Law, ledger, changed_at, changed_here, changed_else, known_set}
use Rattle.mc_board.proofs.{FigureLemmas.figures_of-nil, FigureLemmas.length-figures_of}

-- a view is cut in two, and no history changes
cuts : (counts : Counts) (id : ℕ) (v left right : View)
    → ((l : Ledger) (n : ℕ) → Knows l id v → Knows l id left × Knows l n right)
    → Splits (Law counts) id v left right
cuts counts id v left right cut s k at =
    let l = ledger counts s.words k.history k.stage k.owner k.made in
    record {
      history = k.history;
      stage = k.stage;
      owner = k.owner;
      made = k.made;
      wide = k.wide;
      written = k.written;
      accounts = k.accounts;
      known = λ j u e. ⊎_elim
          (λ was. known_set l s.views id left (λ i x apart e'. k.known i x e') (cut l j (k.known id v at)).0 j u was)
          (λ (new : (j ≡ length (set s.views id left)) × (right ≡ u)). subst (Knows l j) new.1 (cut l j (k.known id v at)).1)
          (at_end (set s.views id left) right u j e);
    }

opens : (counts : Counts) (id : ℕ) (root : Root) → Splits (Law counts) id (views.Root root) (views.Root root) newcomer
opens counts id root = cuts counts id (views.Root root) (views.Root root) newcomer (λ l n mine. (mine, record { sight = IsBehind-blind l.history; told = IsBehind-blind l.history; look = tt }))

copies : (counts : Counts) (id : ℕ) (known : Known) → Splits (Law counts) id (views.Seen known) (views.Seen known) (copy_of (views.Seen known))
copies counts id known = cuts counts id (views.Seen known) (views.Seen known) (copy_of (views.Seen known))
    (λ l n (mine : IsToken l known). (mine, record { sight = mine.sight; told = IsBehind-blind l.history; look = tt }))

tells : (counts : Counts) (id : ℕ) (owned : Owned) → Splits (Law counts) id (views.Owner owned) (views.Owner owned) (told_of (views.Owner owned))
tells counts id owned =
    cuts counts id (views.Owner owned) (views.Owner owned) (told_of (views.Owner owned))
    (λ l n (mine : IsOwner l id owned). (mine, record { sight = IsBehind-with_seen l.history owned.told owned.lock owned.history mine.told mine.history; told = IsBehind-blind l.history; look = tt }))

-- what was made at each lock begins what is made then, if one lock's grows
made_longer : (lock : ℕ) (made : List Span) (md : ℕ → List Span) → IsPrefix (md lock) made → (j : ℕ) → IsPrefix (md j) (changed_at lock made md j)
made_longer lock made md longer j = ⊎_elim
    (λ (same : j ≡ lock). subst (λ (n : ℕ). IsPrefix (md n) (changed_at lock made md n)) (sym same) (subst (IsPrefix (md lock)) (sym (changed_here lock made md)) longer))
    (λ (apart : j ≢ lock). subst (IsPrefix (md j)) (sym (changed_else lock made md j apart)) (prefix_self (md j)))
    (same_or_not j lock)

-- a copy of an account stays one
copy_longer : (first lock : ℕ) (made : List Span) (md : ℕ → List Span) → IsPrefix (md lock) made → (account : Account) → IsCopy first md account → IsCopy first (changed_at lock made md) account
copy_longer first lock made md longer account c = record {
  first_is = c.first_is;
  behind = prefix_trans account.made (md account.lock) (changed_at lock made md account.lock) c.behind (made_longer lock made md longer account.lock);
}

-- the owners with one more
abbrev owners_with : ℕ → ℕ → (ℕ → Option ℕ) → ℕ → Option ℕ
owners_with given seat o j = cond (eqb j given) (some seat) (o j)

with_here : (given seat : ℕ) (o : ℕ → Option ℕ) → owners_with given seat o given ≡ some seat
with_here given seat o = ap (λ b. cond b (some seat) (o given)) (eq-eqb given given refl)

with_else : (given seat : ℕ) (o : ℕ → Option ℕ) (j : ℕ) → j ≢ given → owners_with given seat o j ≡ o j
with_else given seat o j n = ap (λ b. cond b (some seat) (o j)) (ne_eqb j given n)

-- a reading doesn't depend on who owns or made what
reads_dealt : (counts : Counts) (ws : List ℕ) (h : ℕ → List Event) (st : ℕ → Stage) (o o' : ℕ → Option ℕ) (md md' : ℕ → List Span) (look : Look)
    → Reads (ledger counts ws h st o md) look → Reads (ledger counts ws h st o' md') look
reads_dealt counts ws h st o o' md md' looks.Away k = tt
reads_dealt counts ws h st o o' md md' (looks.Reading r) k = let was : IsReading (ledger counts ws h st o md) r = k in record { lock = was.lock; later = was.later; same = was.same }

-- what the other seats know after the root has given out an owner
others_dealt : (counts : Counts) (ws : List ℕ) (h : ℕ → List Event) (st : ℕ → Stage) (o : ℕ → Option ℕ) (md : ℕ → List Span) (id seat : ℕ) (root : Root)
    → Knows (ledger counts ws h st o md) id (views.Root root)
    → (j : ℕ) (u : View) → j ≢ id → Knows (ledger counts ws h st o md) j u → Knows (ledger counts ws h st (owners_with root.given seat o) md) j u
others_dealt counts ws h st o md id seat root mine j (views.Root other) apart k = absurd (apart (k.0 ∙ sym mine.0))
others_dealt counts ws h st o md id seat root mine j (views.Owner owned) apart k =
    let was : IsOwner (ledger counts ws h st o md) j owned = k in
    record {
      owner = with_else root.given seat o owned.lock (λ (same : owned.lock ≡ root.given). some-ne-none j (sym was.owner ∙ (ap o same ∙ (mine.2 root.given (omega arith)).owner))) ∙ was.owner;
      lock = was.lock;
      word = was.word;
      history = was.history;
      stage = was.stage;
      told = was.told;
      first = was.first;
      made = was.made;
      shown = was.shown;
    }
others_dealt counts ws h st o md id seat root mine j (views.Seen known) apart k =
    let was : IsToken (ledger counts ws h st o md) known = k in
    record { sight = was.sight; told = was.told; look = reads_dealt counts ws h st o (owners_with root.given seat o) md md known.look was.look }
others_dealt counts ws h st o md id seat root mine j (views.Account account) apart k = k
others_dealt counts ws h st o md id seat root mine j views.Spent apart k = tt

deals : (counts : Counts) (id : ℕ) (root : Root) → root.counts ≡ counts → root.given < locks_of counts
    → Splits (Law counts) id (views.Root root) (root_after (views.Root root)) (next_owner (views.Root root))
deals counts id root same_counts below s k at =
    let mine = k.known id (views.Root root) at in
    let next : View = root_after (views.Root root) in
    let dealt : View = next_owner (views.Root root) in
    let seat : ℕ = length (set s.views id next) in
    let l = ledger counts s.words k.history k.stage (owners_with root.given seat k.owner) k.made in
    record {
      history = k.history;
      stage = k.stage;
      owner = owners_with root.given seat k.owner;
      made = k.made;
      wide = k.wide;
      written = k.written;
      accounts = k.accounts;
      known = λ j u e. ⊎_elim
          (λ was. known_set l s.views id next
          (λ i x apart e'. others_dealt counts s.words k.history k.stage k.owner k.made id seat root mine i x apart (k.known i x e')) (
            mine.0,
            mine.1,
            λ i le.
                let before : IsFree (ledger counts s.words k.history k.stage k.owner k.made) i = mine.2 i (omega (arith, le)) in
                record { owner = with_else root.given seat k.owner i (λ (same : i ≡ root.given). absurd (omega (arith, le, same))) ∙ before.owner; history = before.history; stage = before.stage; made = before.made },
          ) j u was)
          (λ (new : (j ≡ seat) × (dealt ≡ u)). subst (Knows l j) new.1
          (record {
            owner = with_here root.given seat k.owner ∙ ap (λ (i : ℕ). some i) (sym new.0);
            lock = below;
            word = ap (λ (c : Counts). first_word c root.given) same_counts;
            history = sym (mine.2 root.given (omega arith)).history;
            stage = sym (mine.2 root.given (omega arith)).stage;
            told = IsBehind-blind k.history;
            first = ap first_caller same_counts;
            made = sym (mine.2 root.given (omega arith)).made;
            shown = record { first_is = ap first_caller same_counts; behind = prefix_nil (k.made 0) };
          }))
          (at_end (set s.views id next) dealt u j e);
    }

-- another's view is taken in, and that one is spent
glues : (counts : Counts) (id other : ℕ) (v w both : View)
    → ((l : Ledger) (n : ℕ) → Knows l id v → Knows l n w → Knows l id both)
    → Joins (Law counts) id v other w both views.Spent
glues counts id other v w both glue s k at apart there =
    let l = ledger counts s.words k.history k.stage k.owner k.made in
    let theirs : Knows l other w = ⊎_elim
    (λ (t : (other ≡ id) × (both ≡ w)). absurd (apart t.0))
    (λ (t : (other ≢ id) × (get_elem? s.views other ≡ some w)). k.known other w t.1)
    (at_set s.views id other both w there) in
    record {
      history = k.history;
      stage = k.stage;
      owner = k.owner;
      made = k.made;
      wide = k.wide;
      written = k.written;
      accounts = k.accounts;
      known = known_set l (set s.views id both) other views.Spent
          (λ j u _ e. known_set l s.views id both (λ i x _ e'. k.known i x e') (glue l other (k.known id v at) theirs) j u e)
          tt;
    }

owner_hears : (counts : Counts) (id other : ℕ) (owned : Owned) (known : Known) → Joins (Law counts) id (views.Owner owned) other (views.Seen known) (views.Owner (owned_told owned known.sight)) views.Spent
owner_hears counts id other owned known =
    glues counts id other (views.Owner owned) (views.Seen known) (views.Owner (owned_told owned known.sight))
    (λ l n (mine : IsOwner l id owned) (theirs : IsToken l known).
    record {
      owner = mine.owner;
      lock = mine.lock;
      word = mine.word;
      history = mine.history;
      stage = mine.stage;
      told = theirs.sight;
      first = mine.first;
      made = mine.made;
      shown = mine.shown;
    })

-- an owner is shown a copy of an account
shows_account : (counts : Counts) (id other : ℕ) (owned : Owned) (account : Account)
    → Joins (Law counts) id (views.Owner owned) other (views.Account account) (views.Owner (owned_shown owned account)) views.Spent
shows_account counts id other owned account =
    glues counts id other (views.Owner owned) (views.Account account) (views.Owner (owned_shown owned account))
    (λ l n (mine : IsOwner l id owned) (theirs : IsCopy (first_caller l.counts) l.made account).
    record {
      owner = mine.owner;
      lock = mine.lock;
      word = mine.word;
      history = mine.history;
      stage = mine.stage;
      told = mine.told;
      first = mine.first;
      made = mine.made;
      shown = theirs;
    })

-- what a lock's owner knows is what its account has, with more; so what others know of accounts holds on
others_entered : (counts : Counts) (ws : List ℕ) (h : ℕ → List Event) (st : ℕ → Stage) (o : ℕ → Option ℕ) (md : ℕ → List Span) (id lock : ℕ) (made : List Span)
    → o lock ≡ some id → IsPrefix (md lock) made
    → (j : ℕ) (u : View) → j ≢ id → Knows (ledger counts ws h st o md) j u → Knows (ledger counts ws h st o (changed_at lock made md)) j u
others_entered counts ws h st o md id lock made mine longer j (views.Root root) apart k = (
  k.0,
  k.1,
  λ i le.
      let was : IsFree (ledger counts ws h st o md) i = k.2 i le in
      let else' : i ≢ lock = λ same. some-ne-none id (sym mine ∙ (ap o (sym same) ∙ was.owner)) in
      record { owner = was.owner; history = was.history; stage = was.stage; made = changed_else lock made md i else' ∙ was.made },
)
others_entered counts ws h st o md id lock made mine longer j (views.Owner owned) apart k =
    let was : IsOwner (ledger counts ws h st o md) j owned = k in
    let else' : owned.lock ≢ lock = λ same. apart (some-injective j id (sym was.owner ∙ (ap o same ∙ mine))) in
    record {
      owner = was.owner;
      lock = was.lock;
      word = was.word;
      history = was.history;
      stage = was.stage;
      told = was.told;
      first = was.first;
      made = was.made ∙ sym (changed_else lock made md owned.lock else');
      shown = copy_longer (first_caller counts) lock made md longer owned.shown was.shown;
    }
others_entered counts ws h st o md id lock made mine longer j (views.Seen known) apart k =
    let was : IsToken (ledger counts ws h st o md) known = k in
    record { sight = was.sight; told = was.told; look = reads_dealt counts ws h st o o md (changed_at lock made md) known.look was.look }
others_entered counts ws h st o md id lock made mine longer j (views.Account account) apart k =
    copy_longer (first_caller counts) lock made md longer account k
others_entered counts ws h st o md id lock made mine longer j views.Spent apart k = tt

-- a caller's owner enters events in its account, and gives out a copy
enters : (counts : Counts) (id : ℕ) (owned : Owned) (span : Span)
    → Splits (Law counts) id (views.Owner owned) (entered span (views.Owner owned)) (entered_copy span (views.Owner owned))
enters counts id owned span s k at =
    let mine : IsOwner (ledger counts s.words k.history k.stage k.owner k.made) id owned = k.known id (views.Owner owned) at in
    let lock = owned.lock in
    let made : List Span = with_span owned.made span in
    let md' : ℕ → List Span = changed_at lock made k.made in
    let here : md' lock ≡ made = changed_here lock made k.made in
    let longer : IsPrefix (k.made lock) made = subst (λ (xs : List Span). IsPrefix xs made) mine.made (span ∷ [], refl) in
    let l = ledger counts s.words k.history k.stage k.owner md' in
    let next : View = entered span (views.Owner owned) in
    let copy : View = entered_copy span (views.Owner owned) in
    record {
      history = k.history;
      stage = k.stage;
      owner = k.owner;
      made = md';
      wide = k.wide;
      written = k.written;
      accounts = λ j. IsAccount-longer (first_caller counts) j (k.made j) (md' j) k.history (made_longer lock made k.made longer j) (k.accounts j);
      known = λ j u e. ⊎_elim
          (λ was. known_set l s.views id next
          (λ i x apart e'. others_entered counts s.words k.history k.stage k.owner k.made id lock made mine.owner longer i x apart (k.known i x e'))
          (record {
            owner = mine.owner;
            lock = mine.lock;
            word = mine.word;
            history = mine.history;
            stage = mine.stage;
            told = mine.told;
            first = mine.first;
            made = sym here;
            shown = copy_longer (first_caller counts) lock made k.made longer owned.shown mine.shown;
          }) j u was)
          (λ (new : (j ≡ length (set s.views id next)) × (copy ≡ u)). subst (Knows l j) new.1 (record { first_is = mine.first; behind = subst (IsPrefix made) (sym here) (prefix_self made) }))
          (at_end (set s.views id next) copy u j e);
    }

seen_hears : (counts : Counts) (id other : ℕ) (mine known : Known) → Joins (Law counts) id (views.Seen mine) other (views.Seen known) (views.Seen (record mine { told = known.sight })) views.Spent
seen_hears counts id other mine known =
    glues counts id other (views.Seen mine) (views.Seen known) (views.Seen (record mine { told = known.sight }))
    (λ l n (me : IsToken l mine) (theirs : IsToken l known). record { sight = me.sight; told = theirs.sight; look = me.look })

-- a list of zeros has 0 at each place
zeros_at : (n j : ℕ) → slice_index (replicate n 0) j ≡ 0
zeros_at zero j = refl
zeros_at (suc n) zero = refl
zeros_at (suc n) (suc j) = zeros_at n j

-- the ledger at the start
abbrev opening : Counts → Ledger
opening counts = ledger counts (replicate (words_of counts) 0) (λ _. []) (λ _. stages.Still) (λ _. none) (λ _. [])

-- the rule at the start
pub begins : (counts : Counts) → Law counts (record { words = replicate (words_of counts) 0; homes = []; views = opening_of counts ∷ [] })
begins counts =
    record {
      history = λ _. [];
      stage = λ _. stages.Still;
      owner = λ _. none;
      made = λ _. [];
      wide = length-replicate (words_of counts) 0;
      written = λ lock below. record {
        count = zeros_at (words_of counts) (first_word counts lock);
        eight = length-figures_of [];
        rest = λ j lt. zeros_at (words_of counts) (first_word counts lock + (j + 1)) ∙ sym (ap (λ (l : List ℕ). slice_index l j) figures_of-nil ∙ zeros_at 8 j);
      };
      accounts = λ lock. record { has = λ at place event who there maker mine. absurd (cc there) };
      known = one;
    }
  where
    one : (seat : ℕ) (v : View) → get_elem? (opening_of counts ∷ []) seat ≡ some v → Knows (opening counts) seat v
    one zero v e = subst (Knows (opening counts) 0) (some-injective (opening_of counts) v e) (refl, refl, λ lock le. record { owner = refl; history = refl; stage = refl; made = refl })
    one (suc seat) v e = absurd (some-ne-none v (sym e))

-- the same of words that are known to be these
pub begins_as : (counts : Counts) (words : List ℕ) → replicate (words_of counts) 0 ≡ words → Law counts (record { words = words; homes = []; views = opening_of counts ∷ [] })
begins_as counts words zeros = subst (λ (ws : List ℕ). Law counts (record { words = ws; homes = []; views = opening_of counts ∷ [] })) zeros (begins counts)

-- the same at views that are known to be these
pub opens_as : (counts : Counts) (id : ℕ) (root : Root) (v : View) → v ≡ views.Root root → Splits (Law counts) id v v newcomer
opens_as counts id root v is = subst (λ (u : View). Splits (Law counts) id u u newcomer) (sym is) (opens counts id root)

pub deals_as : (counts : Counts) (id : ℕ) (root : Root) (v : View) → v ≡ views.Root root → root.counts ≡ counts → root.given < locks_of counts → Splits (Law counts) id v (root_after v) (next_owner v)
deals_as counts id root v is same_counts below = subst (λ (u : View). Splits (Law counts) id u (root_after u) (next_owner u)) (sym is) (deals counts id root same_counts below)

pub copies_as : (counts : Counts) (id : ℕ) (known : Known) (v : View) → v ≡ views.Seen known → Splits (Law counts) id v v (copy_of v)
copies_as counts id known v is = subst (λ (u : View). Splits (Law counts) id u u (copy_of u)) (sym is) (copies counts id known)

pub tells_as : (counts : Counts) (id : ℕ) (owned : Owned) (v : View) → v ≡ views.Owner owned → Splits (Law counts) id v v (told_of v)
tells_as counts id owned v is = subst (λ (u : View). Splits (Law counts) id u u (told_of u)) (sym is) (tells counts id owned)

pub owner_hears_as : (counts : Counts) (id other : ℕ) (owned : Owned) (known : Known) (v w : View) → v ≡ views.Owner owned → w ≡ views.Seen known → Joins (Law counts) id v other w (hearing v w) views.Spent
owner_hears_as counts id other owned known v w is also =
    subst (λ (u : View × View). Joins (Law counts) id u.0 other u.1 (hearing u.0 u.1) views.Spent) (λ i. (sym is i, sym also i)) (owner_hears counts id other owned known)

pub seen_hears_as : (counts : Counts) (id other : ℕ) (mine known : Known) (v w : View) → v ≡ views.Seen mine → w ≡ views.Seen known → Joins (Law counts) id v other w (hearing v w) views.Spent
seen_hears_as counts id other mine known v w is also =
    subst (λ (u : View × View). Joins (Law counts) id u.0 other u.1 (hearing u.0 u.1) views.Spent) (λ i. (sym is i, sym also i)) (seen_hears counts id other mine known)

pub shows_account_as : (counts : Counts) (id other : ℕ) (owned : Owned) (account : Account) (v w : View) → v ≡ views.Owner owned → w ≡ views.Account account
    → Joins (Law counts) id v other w (showing v w) views.Spent
shows_account_as counts id other owned account v w is also =
    subst (λ (u : View × View). Joins (Law counts) id u.0 other u.1 (showing u.0 u.1) views.Spent) (λ i. (sym is i, sym also i)) (shows_account counts id other owned account)

pub enters_as : (counts : Counts) (id : ℕ) (owned : Owned) (span : Span) (v : View) → v ≡ views.Owner owned → Splits (Law counts) id v (entered span v) (entered_copy span v)
enters_as counts id owned span v is = subst (λ (u : View). Splits (Law counts) id u (entered span u) (entered_copy span u)) (sym is) (enters counts id owned span)

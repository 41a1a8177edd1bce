-- A load keeps the rule: a comparison by an owner, a meeting of two tokens.
use Rattle.std.proofs.Common.{◌≡◌, ℕ, List, [], set, refl, sym, subst}
use Rattle.std.specs.Prelude.{slice_index}
use mathlib.Core.Option.{none}
use Rattle.atomic_table.specs.Table.{State, Me, step, keeps, Allows}
use Rattle.mc_item.specs.declared.event.Event.{Event}
use Rattle.mc_board.specs.declared.{rule.Counts.Counts, rule.Note.Note, rule.Owned.Owned, rule.Known.Known, rule.Span.Span, rule.View.View}
use Rattle.mc_board.specs.declared.rule.View.TheVariants as views
use Rattle.mc_board.specs.Accounts.{first_caller, IsAccount}
use Rattle.mc_board.specs.Histories.{list_at, IsAhead, IsBehind, IsNoteOf}
use Rattle.mc_board.specs.{Board.IsOwner, Board.IsToken, Board.Knows, Board.IsGrowing, Steps.Compared, Steps.Met}
use Rattle.mc_board.proofs.{AccountLemmas.IsAccount-behind, PrefixLemmas.prefix_either, PrefixLemmas.set_back, RuleLemmas.Law, RuleLemmas.ledger, RuleLemmas.known_set}
use Rattle.std.proofs.lemmas.List.Elements.{All-weaker}
use Rattle.mc_board.specs.declared.rule.Sight.{Sight}

-- the words stand as they were, and one view is changed
pub viewed : (counts : Counts) (s : State Unit View) (k : Law counts s) (id word : ℕ) (w : View)
    → Knows (ledger counts s.words k.history k.stage k.owner k.made) id w
    → IsGrowing counts (set s.words word (slice_index s.words word)) (set s.views id w)
viewed counts s k id word w mine =
    subst (λ (ws : List ℕ). IsGrowing counts ws (set s.views id w)) (sym (set_back s.words word))
    (record {
      history = k.history;
      stage = k.stage;
      owner = k.owner;
      made = k.made;
      wide = k.wide;
      written = k.written;
      accounts = k.accounts;
      known = known_set (ledger counts s.words k.history k.stage k.owner k.made) s.views id w (λ j u apart e. k.known j u e) mine;
    })

-- a sight that is behind all histories has a lock's history ahead of it
IsAhead-behind : (h : ℕ → List Event) (s : Sight) (lock : ℕ) → IsBehind h s → IsAhead (h lock) s lock
IsAhead-behind h s lock b =
    record {
      seen = b.seen lock;
      noted = b.noted lock;
      figures = All-weaker (λ (n : Note). IsNoteOf (h n.lock) n) (λ (n : Note). n.lock ≡ lock → IsNoteOf (h lock) n)
          (λ (n : Note) (is : IsNoteOf (h n.lock) n) (same : n.lock ≡ lock). subst (λ (j : ℕ). IsNoteOf (h j) n) same is) s.figures b.figures;
    }

compares : (counts : Counts) (slots id word : ℕ) (owned : Owned)
    → Allows (Law counts) slots id (views.Owner owned, []) word (λ n. n) (Compared (step slots word 0 0 none) (views.Owner owned, []))
compares counts slots id word owned s k homes at fits =
    let mine : IsOwner (ledger counts s.words k.history k.stage k.owner k.made) id owned = k.known id (views.Owner owned) at in (
      views.Owner owned,
      keeps,
      tt,
      viewed counts s k id word (views.Owner owned) mine,
      (
        refl,
        (
          subst (λ (h : List Event). IsAhead h owned.told owned.lock) (sym mine.history) (IsAhead-behind k.history owned.told owned.lock mine.told),
          subst (λ (x : ℕ × List Span). IsAccount x.0 owned.lock x.1 (list_at owned.told.seen)) (λ i. (sym mine.first i, sym mine.made i))
              (IsAccount-behind (first_caller counts) owned.lock (k.made owned.lock) (list_at owned.told.seen) k.history mine.told.seen (k.accounts owned.lock)),
        ),
      ),
    )

meets : (counts : Counts) (slots id word : ℕ) (known : Known)
    → Allows (Law counts) slots id (views.Seen known, []) word (λ n. n) (Met (step slots word 0 0 none) (views.Seen known, []))
meets counts slots id word known s k homes at fits =
    let mine : IsToken (ledger counts s.words k.history k.stage k.owner k.made) known = k.known id (views.Seen known) at in (
      views.Seen known,
      keeps,
      tt,
      viewed counts s k id word (views.Seen known) mine,
      (refl, record { at = λ lock. prefix_either (list_at known.sight.seen lock) (list_at known.told.seen lock) (k.history lock) (mine.sight.seen lock) (mine.told.seen lock) }),
    )

-- the same at a view that is known to be this
pub compares_as : (counts : Counts) (slots id word : ℕ) (me : Me Unit View) (owned : Owned) → me ≡ (views.Owner owned, [])
    → Allows (Law counts) slots id me word (λ n. n) (Compared (step slots word 0 0 none) me)
compares_as counts slots id word me owned is =
    subst (λ (m : Me Unit View). Allows (Law counts) slots id m word (λ n. n) (Compared (step slots word 0 0 none) m)) (sym is) (compares counts slots id word owned)

pub meets_as : (counts : Counts) (slots id word : ℕ) (me : Me Unit View) (known : Known) → me ≡ (views.Seen known, [])
    → Allows (Law counts) slots id me word (λ n. n) (Met (step slots word 0 0 none) me)
meets_as counts slots id word me known is =
    subst (λ (m : Me Unit View). Allows (Law counts) slots id m word (λ n. n) (Met (step slots word 0 0 none) m)) (sym is) (meets counts slots id word known)

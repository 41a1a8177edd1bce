-- The figures that a pass noted of a class, held against the closed store.
use Rattle.std.proofs.Common.{◌≡◌, ◌≤◌, ◌+◌, ◌-◌, ℕ, List, Some, slice_get, take, length, ap, sym, ◌∙◌, subst, arith}
use Rattle.std.specs.Prelude.{All}
use Rattle.std.proofs.lemmas.{List.length-map, List.take-map, List.Elements.All-get_or, Option.get_or_from_slice_get, Option.slice_get_within}
use Rattle.mc_item.specs.declared.{class_event.ClassEvent.ClassEvent, config.Config.Config, event.Event.TheVariants.Class, item.ClassNo.ClassNo}
use Rattle.mc_rule.specs.{Figures.figures_of_lists, Lists.lists_of}
use Rattle.mc_evidence.specs.Setting.{IsClass}
use Rattle.mc_board.proofs.FigureLemmas.{figures_of-map}
use Rattle.mc_board.specs.{Figures.figures_of, Histories.IsNoteOf}
use Rattle.mc_board.specs.declared.rule.{Note.Note, Sight.Sight}
use Rattle.mc_store.specs.{Finals.AreClasses, Finals.FinalView, Finals.IsBehindClasses, Finals.class_histories, Finals.class_history, Locked.class_lock, Locked.setting_of, Sides.class_told}
use Rattle.mc_store.proofs.NumberOrderLemmas.{get_some}

-- what holds of each holds of the one at a place
all_at : {A : Type 0} (P : A → Type 0) (xs : List A) (k : ℕ) (x : A) → All P xs → slice_get xs k ≡ Some x → P x
all_at P xs k x all at = subst P (get_or_from_slice_get xs k x x at) (All-get_or P xs k x (slice_get_within xs k x at) all)

-- a note of a class's history on the board is one of its lists
note_told : (es : List ClassEvent) (note : Note) → IsNoteOf (class_told es) note → (note.events ≤ length es) × (note.values ≡ figures_of_lists (lists_of (take note.events es)))
note_told es note is = (
  subst (λ (n : ℕ). note.events ≤ n) (length-map es Class) is.events,
  is.values ∙ (ap figures_of (take-map Class note.events es) ∙ figures_of-map (take note.events es)),
)

-- the figures that a pass noted of a class are those of its final history's first so many events
pub figures_borne_out : (config : Config) (final : FinalView) (sight : Sight) (note : Note) (class : ClassNo) (place : ℕ) → IsClass (setting_of config) class
    → AreClasses final.board config final.classes → IsBehindClasses sight final.classes → slice_get sight.figures place ≡ Some note → note.lock ≡ class_lock config class
    → (note.events ≤ length (class_histories final.classes class)) × (note.values ≡ figures_of_lists (lists_of (take note.events (class_histories final.classes class))))
figures_borne_out config final sight note class place is all behind there of =
    let (s, at) = get_some final.classes (class.0 - 1) (omega (arith, is, all.many)) in
    let under = all.each (class.0 - 1) s at in
    let lock : note.lock ≡ s.lock = of ∙ (ap (λ (n : ℕ). config.stripes + (n - 1)) (omega (arith, is.0, under.number_is)) ∙ sym under.kept.held.lock_is) in
    subst (λ (h : List ClassEvent). (note.events ≤ length h) × (note.values ≡ figures_of_lists (lists_of (take note.events h)))) (ap class_history (sym at))
    (note_told s.class.history note (all_at (λ (n : Note). n.lock ≡ s.lock → IsNoteOf (class_told s.class.history) n) sight.figures place note (behind.each (class.0 - 1) s at).figures there lock))

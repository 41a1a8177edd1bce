-- Lemmas for a count's try.
use Rattle.std.proofs.Common.{ℕ, ◌≡◌, Bool, true, false, List, length, refl}
use Rattle.std.specs.Prelude.{Option, Some, None, decimal, nat_le, if◌then◌else◌}
use Rattle.mc_item.specs.{Answer.Row, Answer.cas_of, Answer.grown_row, Answer.number_row, Answer.padded, Answer.plain, Measure.class_of, Measure.cost_of}
use Rattle.mc_item.specs.declared.answer.Change.TheVariants as changes
use Rattle.mc_item.specs.declared.answer.Need.TheVariants as needs
use Rattle.mc_item.specs.declared.{answer.Site.Site, item.ClassNo.ClassNo, item.Item.Item}
use Rattle.mc_item.specs.declared.reply.Reply.TheVariants as replies
use Rattle.mc_stripe.specs.Wanting.{Covers, class_beside, classes_for}
use Rattle.mc_stripe.specs.declared.wanting.Given.{Given}

-- a count that needs no chunk touches none, so what covers a chunk's classes covers all that it wants
module _ (given : Given) (site : Site) (n : ℕ) (key : List ℕ) (item : Item) where
  abbrev CoversFresh : Row → Type 0
  CoversFresh row = (class : ClassNo) → row.need ≡ needs.Fresh class → Covers given (record { home = Some class; other = class_beside class (Some item.link) })

  abbrev covers_row : Row → Type 0
  covers_row row = CoversFresh row → Covers given (classes_for key (Some item) row)

  grown_covers : (number : ℕ) (o : Option ClassNo) → covers_row (grown_row site n item number o)
  grown_covers number None fresh = (tt, tt)
  grown_covers number (Some class) fresh = fresh class refl

  short_covers : (number : ℕ) (b : Bool) (o : Option ClassNo)
      → covers_row (if b then plain needs.Same (replies.Number number) (changes.Counted (padded (decimal number) (length item.value)) (cas_of site n)) else grown_row site n item number o)
  short_covers number true o fresh = (tt, tt)
  short_covers number false o fresh = grown_covers number o fresh

  pub number_covers : (o : Option ℕ) → covers_row (number_row site n key item o)
  number_covers None fresh = (tt, tt)
  number_covers (Some number) fresh = short_covers number (nat_le (length (decimal number)) (length item.value)) (class_of site.sizes (cost_of key (decimal number))) fresh

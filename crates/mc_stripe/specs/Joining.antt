-- Which storage commands join their block to the old value, and on which side. The rows of storage commands by what they bring (own).
use Rattle.std.specs.Prelude.{ℕ, ◌++◌, List, Option, Some, None}
use Rattle.mc_item.specs.Answer.{Row, Written, join_row, plain, version_of, write_row, written_over}
use Rattle.mc_item.specs.{Measure.class_of, Measure.cost_of}
use Rattle.mc_item.specs.declared.answer.Change.TheVariants as changes
use Rattle.mc_item.specs.declared.answer.Need.TheVariants as needs
use Rattle.mc_item.specs.declared.{answer.Site.Site, command.Verb.Verb, item.Expiry.Expiry, item.Item.Item}
use Rattle.mc_item.specs.declared.command.Verb.TheVariants.{Set, Add, Replace, Cas, Append, Prepend}
use Rattle.mc_item.specs.declared.reply.Reply.TheVariants as replies
use Rattle.mc_stripe.specs.declared.joining.Side.{Side}
use Rattle.mc_stripe.specs.declared.joining.Side.TheVariants as sides

-- what a storage command brings: its flags, its block, and the expiry of its exptime
abbrev pub content_of : ℕ → List ℕ → Expiry → Written
content_of flags block expiry = record { flags = flags; value = block; expiry = expiry }

-- the row of a storage command that brings this, by the item found
abbrev pub content_row : Site → ℕ → List ℕ → Verb → Written → Option Item → Row
content_row site n key verb own found = write_row site n key verb found (written_over verb own found)

-- the side on which a storage command joins its block to the old value, none if it replaces that
abbrev pub side_of : Verb → Option Side
side_of Set = None
side_of Add = None
side_of Replace = None
side_of (Cas unique) = None
side_of Append = Some sides.Behind
side_of Prepend = Some sides.Before

-- the value that joins block to an old value on this side
abbrev pub joined : Side → List ℕ → List ℕ → List ℕ
joined sides.Behind block value = value ++ block
joined sides.Before block value = block ++ value

-- the row of an append or prepend of this block, by the item found
abbrev pub joining_row : Site → ℕ → List ℕ → Side → List ℕ → Option Item → Row
joining_row site n key side block None = plain needs.Nothing replies.NotStored changes.Stays
joining_row site n key side block (Some item) =
    join_row (class_of site.sizes (cost_of key (joined side block item.value))) (Some item)
    (version_of site n item.flags (joined side block item.value) item.expiry)

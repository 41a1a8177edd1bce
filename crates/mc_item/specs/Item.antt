-- Items: when they die, what an exptime means, which marks hits set, and where their chunks are. A moment is a time in seconds.
use Rattle.std.specs.Prelude.{ℕ, ◌+◌, ◌==◌, nat_le, ℤ, pos, negsuc, Bool, true, false, if◌then◌else◌, Option, Some, None}
use Rattle.mc_item.specs.declared.{item.Expiry.Expiry, item.Expiry.TheVariants.Never, item.Expiry.TheVariants.At, item.Marks.Marks, item.Item.Item}
use Rattle.mc_item.specs.declared.{item.Link.Link}

-- whether an expiry has come at a moment: it has from its own second on (this project's own)
abbrev pub has_come : Expiry → ℕ → Bool
has_come Never moment = false
has_come (At end) moment = nat_le end moment

-- whether an item is dead at a moment: its expiry has come
abbrev pub is_dead : Item → ℕ → Bool
is_dead item moment = has_come item.expiry moment

-- the expiry of an exptime at a moment (protocol.txt, "Expiration times"): 0 is never, a negative one at once, up to 30 days
-- count in seconds from the moment, a larger one is itself a moment
abbrev pub expiry_of : ℤ → ℕ → Expiry
expiry_of (negsuc n) now = At 0
expiry_of (pos n) now = if n == 0 then Never else if nat_le n 2592000 then At (now + n) else At n

-- the marks of a new version
abbrev pub no_marks : Marks
no_marks = record { fetched = false; active = false }

-- the marks after one more hit: the first sets FETCHED, the next ACTIVE (new_lru.txt)
abbrev pub hit_marks : Marks → Marks
hit_marks marks = record { fetched = true; active = if marks.fetched then true else marks.active }

-- the link of an item, if there is an item
abbrev pub link_of_item : Option Item → Option Link
link_of_item None = None
link_of_item (Some item) = Some item.link

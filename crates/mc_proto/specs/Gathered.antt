-- Reply texts as they are gathered: parts with bytes of their own, and parts that share a value's bytes (this project's own).
use Rattle.std.specs.Prelude.{ℕ, List, ◌++◌, take}
use Rattle.std.specs.List.{flat_map}
use Rattle.mc_proto.specs.declared.{gathering.TextPart.TextPart, gathering.TextPart.TheVariants.Own, gathering.TextPart.TheVariants.Shared}

-- the bytes of a part: its own, or the first `count` bytes of a value
abbrev pub part_bytes : TextPart → List ℕ
part_bytes (Own bytes) = bytes.items
part_bytes (Shared value count) = take count value

-- the bytes of the parts, one part after the other
abbrev pub bytes_of_parts : List TextPart → List ℕ
bytes_of_parts parts = flat_map part_bytes parts

-- a text as contracts see it: its bytes
pub record Gathered : Type 0 where
  pub items : List ℕ

-- the text of these parts, followed by these last bytes
abbrev pub gathered : List TextPart → List ℕ → Gathered
gathered parts last = record { items = bytes_of_parts parts ++ last }

-- The kinds of tokens: what a token of each kind stands for, and which fault a malformed one makes (protocol.txt, "Commands"; the
-- limits are this project's own).
use Rattle.std.specs.Prelude.{ℕ, ◌-◌, ◌^◌, List, Option, ℤ}
use Rattle.mc_item.specs.declared.item.ClassNo.{ClassNo}
use Rattle.mc_proto.specs.Lines.{class_of_token, key_of_token, number_from_one, number_up_to, exptime, target_of}
use Rattle.mc_proto.specs.declared.{request.Limits.Limits, request.LineFault.LineFault, request.Target.Target}
use Rattle.mc_proto.specs.declared.request.LineFault.TheVariants as faults

-- what a token must be, by its place in a line
pub data Kind : Type 0 where
  Key : Kind
  Flags : Kind
  Exptime : Kind
  Bytes : Kind
  CasNumber : Kind
  Delta : Kind
  NewExptime : Kind
  Moment : Kind
  Classes : Kind
  OneClass : Kind
  ChunkLimit : Kind

-- the type of what a token of this kind stands for: a key, a signed number, slab classes, one slab class, or else a number
abbrev pub Value : Kind → Type 0
Value Key = List ℕ
Value Exptime = ℤ
Value NewExptime = ℤ
Value Classes = Target
Value OneClass = ClassNo
Value _ = ℕ

-- the value of a token, if it is of this kind (the limits are own)
abbrev pub value : Limits → (kind : Kind) → List ℕ → Option (Value kind)
value limits Key token = key_of_token token
value limits Flags token = number_up_to (2 ^ 32 - 1) token
value limits Exptime token = exptime token
value limits Bytes token = number_up_to 2147483645 token
value limits CasNumber token = number_up_to (2 ^ 64 - 1) token
value limits Delta token = number_up_to (2 ^ 64 - 1) token
value limits NewExptime token = exptime token
value limits Moment token = number_up_to (2 ^ 62) token
value limits Classes token = target_of limits token
value limits OneClass token = class_of_token limits token
value limits ChunkLimit token = number_from_one (2 ^ 20) token

-- the fault of a line in which a token of this kind is malformed
abbrev pub fault_of_kind : Kind → LineFault
fault_of_kind Delta = faults.Delta
fault_of_kind NewExptime = faults.Exptime
fault_of_kind _ = faults.Format

-- the text so far, and the text of the members that are left, are the text of all
use Rattle.std.proofs.Common.{◌≡◌, ◌++◌, drop, string_bytes}
use Rattle.world.specs.Texts.{members_text}
use Rattle.world.proofs.texts.members_text.Given as goal

abbrev pub invariant-loop-member : goal.invariant-loop-member
invariant-loop-member l = string_bytes l.text ++ members_text (drop l.member-index l.members) ≡ members_text l.members

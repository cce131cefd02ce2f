-- What bricks suspect after the steps of a run, and which proposal it is where a brick is to replace what it suspects.
use Rattle.std.specs.Prelude.{ℕ, ◌-◌, ◌^◌, nat_lt, ◌&&◌, Bool, true, false, if◌then◌else◌, List, [], ◌∷◌, map, Option, Some, None, is_some, Result, Ok, Err}
use Rattle.fab_base.specs.declared.answers.Refusal.{Refusal}
use Rattle.fab_base.specs.declared.answers.Refusal.TheVariants.{Down, NoStripe, Busy}
use Rattle.fab_base.specs.declared.identities.BrickId.{BrickId}
use Rattle.fab_base.specs.declared.member_lists.View.{View}
use Rattle.fab_base.specs.Layouts.{group_of}
use Rattle.lines.specs.declared.forms.Line.{Line}
use Rattle.lines.specs.declared.forms.Line.TheVariants.{Nothing, Propose, Suspect, Trust, Spare}
use Rattle.protocol.specs.Nodes.{Node}
use Rattle.protocol.specs.Worlds.{is_up}
use Rattle.spares.specs.Suspicions.{Suspicions, unsuspecting, with_opinion}
use Rattle.spares.specs.Replacements.{list_for}
use Rattle.world.specs.Runs.{Run, Step, world_of, brick_of}

-- a disk of so many bricks has the bricks of both numbers
abbrev pub has_both : ℕ → ℕ → ℕ → Bool
has_both bricks b c = nat_lt b bricks && nat_lt c bricks

-- one brick suspects another from then on, or no longer, where the disk has both
abbrev pub with_suspicion : Suspicions → ℕ → ℕ → Bool → Suspicions
with_suspicion suspicions b c suspected =
    if has_both suspicions.bricks b c then with_opinion suspicions (brick_of b) (brick_of c) suspected else suspicions

-- what is suspected after a line: two forms of lines change it, and nothing else does
abbrev pub suspected_after : Suspicions → Line → Suspicions
suspected_after suspicions (Suspect b c) = with_suspicion suspicions b c true
suspected_after suspicions (Trust b c) = with_suspicion suspicions b c false
suspected_after suspicions line = suspicions

-- what is suspected after some steps
abbrev pub suspected_in : Suspicions → List Step → Suspicions
suspected_in suspicions [] = suspicions
suspected_in suspicions (step ∷ steps) = suspected_in (suspected_after suspicions step.line) steps

-- what the bricks of a run suspect: none of them at first
abbrev pub suspicions_of : Run → Suspicions
suspicions_of r = suspected_in (unsuspecting r.layout) r.steps

-- a group, as a brick is asked for it: every number past 2^32 is as far past the last group as that is
abbrev pub group_asked : ℕ → ℕ
group_asked g = if nat_lt g (2 ^ 32) then g else 2 ^ 32 - 1

-- the view that a brick has learnt, if it has no proposal
abbrev pub proposer_in : Node → ℕ → Result View Refusal
proposer_in node g = if is_some node.proposal then Err Busy else Ok (node.learnt g).view

-- The view that a brick would propose the next of, or why it is not asked for that: it is not up, there is no such group, or it has a proposal.
abbrev pub proposer_at : Run → ℕ → ℕ → Result View Refusal
proposer_at r b g =
    if is_up r.layout (world_of r) (brick_of b)
    then (if is_some (group_of r.layout g) then proposer_in ((world_of r).nodes b) g else Err NoStripe) else Err Down

-- The list that a brick is to propose in place of the members of this view: that in which those that it suspects are replaced, and none where no seat
-- changes. One that refuses is asked for an empty list, which it refuses as any other.
abbrev pub list_to_propose : Suspicions → BrickId → Result View Refusal → Option (List BrickId)
list_to_propose suspicions by (Ok view) = list_for suspicions by view.members
list_to_propose suspicions by (Err refusal) = Some []

-- what a brick is to propose by a line `spare`
abbrev pub spare_list : Run → ℕ → ℕ → Option (List BrickId)
spare_list r b g = list_to_propose (suspicions_of r) (brick_of b) (proposer_at r b g)

-- the line by which a brick is to propose a list, if there is one
abbrev pub proposing_line : ℕ → ℕ → Option (List BrickId) → Line
proposing_line b g (Some members) = Propose b g (map (λ member. member.0) members)
proposing_line b g None = Nothing

-- The line that is run for a line of a schedule: for a line `spare` it is the line `view` of the list that its brick is to propose, and for each other the line itself.
abbrev pub meant : Run → Line → Line
meant r (Spare b g) = proposing_line b g (spare_list r b g)
meant r line = line

-- What a history hears of what a brick tells, one thing after another.
use Rattle.std.proofs.Common.{◌≡◌, ℕ, ◌+◌, ◌≤◌, Bool, true, false, not, cond, nat_eq, List, [], ◌∷◌, ◌++◌, refl, sym, ap, ◌∙◌, subst, arith}
use Rattle.std.specs.Prelude.{is_some}
use Rattle.fab_base.specs.declared.identities.BrickId.{BrickId}
use Rattle.fab_base.specs.declared.stamps.Stamp.{Stamp}
use Rattle.protocol.specs.declared.tellings.Answered.{Answered}
use Rattle.protocol.specs.declared.tellings.Told.{Told}
use Rattle.protocol.specs.declared.tellings.Told.TheVariants.{Made, Seen, Began, Closed}
use Rattle.protocol.specs.Nodes.{Node, NodeStep, put}
use Rattle.protocol.specs.Settings.{Setting}
use Rattle.protocol.specs.Worlds.{World, number_of, with_made, with_seen, with_closed, world_told, world_tells, world_answers, world_stepped, reports_of}
use Rattle.coord_phase.specs.Messages.{packets_from}
use Rattle.node.specs.Outcomes.{Outcome}
use Rattle.node.specs.States.{StepsAs}
use Rattle.world.specs.declared.histories.History.{History}
use Rattle.world.specs.Shown.{TellsAt, Tells, OpensReads, IsToldAt, AreTold, AreAnswered, made_kept, seen_kept, ended_kept, seqs_of, reads_begun}
use Rattle.world.specs.Noted.{NotesOne, NotesTold, NotesEnds, NotesStep}
use Rattle.world.proofs.HistoryLemmas.{tells_counted, tells_call, tells_read, tells_ends, tells_spoken, tells_stepped, made_alike, seen_alike, closed_alike, nodes_told, up_told}
use Rattle.world.proofs.Places.{each_value, value_here}

-- no history tells what versions contain
pub tells_contents : (seqs : ℕ → ℕ) (history : History) (w : World) (contents : ℕ → ℕ → Stamp → List ℕ) → TellsAt seqs history w
    → TellsAt seqs history (record w { contents = contents })
tells_contents seqs history w contents tells = record {
  packets = tells.packets;
  reached = tells.reached;
  marks = tells.marks;
  reports = tells.reports;
  begun = tells.begun;
  marked = record { count = tells.marked.count; each = tells.marked.each };
  operations = tells.operations;
  calls = tells.calls;
}

-- where no read begins no call is made
pub hears_same : (seqs : ℕ → ℕ) (b : ℕ) (told : List Told) → reads_begun told ≡ 0 → (history : History) (w : World) → TellsAt seqs history w
    → TellsAt (put seqs b (seqs b + reads_begun told)) history w
hears_same seqs b told none history w tells =
    tells_counted seqs (put seqs b (seqs b + reads_begun told)) history w
    (each_value (λ j k. k ≡ seqs j) seqs b (seqs b + reads_begun told) (let e : seqs b + reads_begun told ≡ seqs b = omega (arith, none) in e) (λ j other. refl))
    tells

-- one thing was told
pub tells_noted : (setting : Setting) (nodes : ℕ → Node) (seqs : ℕ → ℕ) (brick : BrickId) (one : Told) (old new : History) (w : World) → TellsAt seqs old w
    → w.up brick.0 ≡ true → IsToldAt (w.nodes brick.0).boot (seqs brick.0) one → NotesOne brick one old new
    → TellsAt (put seqs brick.0 (seqs brick.0 + reads_begun (one ∷ []))) new (world_told setting nodes w brick one)
tells_noted setting nodes seqs brick (Made seq stamp base) old new w tells up of notes =
    hears_same seqs brick.0 (Made seq stamp base ∷ []) refl new (world_told setting nodes w brick (Made seq stamp base))
    (tells_contents seqs new (record w { operations = put w.operations (number_of w brick.0 seq) (with_made stamp base (w.operations (number_of w brick.0 seq))) })
    (world_told setting nodes w brick (Made seq stamp base)).contents
    (tells_call seqs old new w brick.0 seq (made_kept stamp base) (with_made stamp base) (made_alike stamp base) tells up of notes))
tells_noted setting nodes seqs brick (Seen seq stamp) old new w tells up of notes =
    hears_same seqs brick.0 (Seen seq stamp ∷ []) refl new (world_told setting nodes w brick (Seen seq stamp))
    (tells_call seqs old new w brick.0 seq (seen_kept stamp) (with_seen stamp) (seen_alike stamp) tells up of notes)
tells_noted setting nodes seqs brick (Began call) old new w tells up of notes = tells_read setting nodes seqs old new w brick call tells up of.0 of.1 notes
tells_noted setting nodes seqs brick (Closed seq cause) old new w tells up of notes =
    hears_same seqs brick.0 (Closed seq cause ∷ []) refl new (world_told setting nodes w brick (Closed seq cause))
    (tells_call seqs old new w brick.0 seq (ended_kept (not (is_some cause))) (with_closed cause) (closed_alike cause) tells up of notes)

-- how many reads begin, one thing after another
reads_first : (one : Told) (more : List Told) → reads_begun (one ∷ more) ≡ reads_begun (one ∷ []) + reads_begun more
reads_first (Made seq stamp base) more = let e : reads_begun more ≡ 0 + reads_begun more = omega arith in e
reads_first (Seen seq stamp) more = let e : reads_begun more ≡ 0 + reads_begun more = omega arith in e
reads_first (Began call) more = let e : 1 + reads_begun more ≡ (1 + 0) + reads_begun more = omega arith in e
reads_first (Closed seq cause) more = let e : reads_begun more ≡ 0 + reads_begun more = omega arith in e

pub reads_more : (told more : List Told) → reads_begun (told ++ more) ≡ reads_begun told + reads_begun more
reads_more [] more = let e : reads_begun more ≡ 0 + reads_begun more = omega arith in e
reads_more (one ∷ told) more =
    let rest = reads_more told more in
    let first = reads_first one (told ++ more) in
    let last = reads_first one told in
    let e : reads_begun (one ∷ (told ++ more)) ≡ reads_begun (one ∷ told) + reads_begun more = omega (arith, rest, first, last) in e

-- what is told, and what is told then, together
pub told_join : (boot seq : ℕ) (told more : List Told) → AreTold boot seq told → AreTold boot (seq + reads_begun told) more → AreTold boot seq (told ++ more)
told_join boot seq [] more first then = subst (λ (k : ℕ). AreTold boot k more) (let e : seq + 0 ≡ seq = omega arith in e) then
told_join boot seq (one ∷ told) more first then =
    let count = reads_first one told in (
      first.0,
      told_join boot (seq + reads_begun (one ∷ [])) told more first.1
          (subst (λ (k : ℕ). AreTold boot k more)
          (let e : seq + reads_begun (one ∷ told) ≡ (seq + reads_begun (one ∷ [])) + reads_begun told = omega (arith, count) in e) then),
    )

-- all this was told, one thing after another
pub tells_told : (setting : Setting) (nodes : ℕ → Node) (seqs : ℕ → ℕ) (brick : BrickId) (told : List Told) (old new : History) (w : World) → TellsAt seqs old w
    → w.up brick.0 ≡ true → AreTold (w.nodes brick.0).boot (seqs brick.0) told → NotesTold brick told old new
    → TellsAt (put seqs brick.0 (seqs brick.0 + reads_begun told)) new (world_tells setting nodes w brick told)
tells_told setting nodes seqs brick [] old new w tells up are notes =
    hears_same seqs brick.0 [] refl new w (subst (λ (h : History). TellsAt seqs h w) (sym notes) tells)
tells_told setting nodes seqs brick (one ∷ more) old new w tells up are notes =
    let b : ℕ = brick.0 in
    let (mid, first, then) = notes in
    let counts : ℕ → ℕ = put seqs b (seqs b + reads_begun (one ∷ [])) in
    let v : World = world_told setting nodes w brick one in
    let count : counts b ≡ seqs b + reads_begun (one ∷ []) = value_here seqs b b (seqs b + reads_begun (one ∷ [])) refl in
    let fits : AreTold (v.nodes b).boot (counts b) more =
    subst (λ (k : ℕ). AreTold (v.nodes b).boot k more) (sym count)
    (subst (λ (f : ℕ → Node). AreTold (f b).boot (seqs b + reads_begun (one ∷ [])) more) (sym (nodes_told setting nodes w brick (one ∷ []))) are.1) in
    let after : TellsAt (put counts b (counts b + reads_begun more)) new (world_tells setting nodes v brick more) =
    tells_told setting nodes counts brick more mid new v (tells_noted setting nodes seqs brick one old mid w tells up are.0 first)
    (ap (λ (f : ℕ → Bool). f b) (up_told setting nodes w brick (one ∷ [])) ∙ up) fits then in
    let total : seqs b + reads_begun (one ∷ more) ≡ counts b + reads_begun more =
    (let all = reads_first one more in omega (arith, all, count)) in
    tells_counted (put counts b (counts b + reads_begun more)) (put seqs b (seqs b + reads_begun (one ∷ more))) new (world_tells setting nodes v brick more)
    (λ i. same_count seqs b (seqs b + reads_begun (one ∷ [])) (counts b + reads_begun more) (seqs b + reads_begun (one ∷ more)) total i) after
  where
    same_count : (f : ℕ → ℕ) (b m k n : ℕ) → n ≡ k → (i : ℕ) → put f b n i ≡ put (put f b m) b k i
    same_count f b m k n same i = by_place (nat_eq i b)
      where
        by_place : (x : Bool) → cond x n (f i) ≡ cond x k (cond x m (f i))
        by_place true = same
        by_place false = refl

-- so it may be noted in two parts
pub notes_then : (brick : BrickId) (told more : List Told) (old mid new : History) → NotesTold brick told old mid → NotesTold brick more mid new
    → NotesTold brick (told ++ more) old new
notes_then brick [] more old mid new first then = subst (λ (h : History). NotesTold brick more h new) first then
notes_then brick (one ∷ told) more old mid new first then =
    let (next, noted, rest) = first in (next, noted, notes_then brick told more next mid new rest then)

-- calls so far are calls so far later
pub answered_past : (seq later : ℕ) (answers : List Answered) → seq ≤ later → AreAnswered seq answers → AreAnswered later answers
answered_past seq later [] low are = tt
answered_past seq later (one ∷ answers) low are = ((are.0.0, omega (arith, low, are.0.1)), answered_past seq later answers low are.1)

-- a step that told, answered, sent and reported
pub tells_step : (setting : Setting) (old new : History) (w : World) (brick : BrickId) (outs : Outcome) (state : Node) (step : NodeStep) → Tells old w → w.up brick.0 ≡ true
    → OpensReads (w.nodes brick.0) step → StepsAs brick state step outs → NotesStep old new brick outs → Tells new (world_stepped setting w brick step)
tells_step setting old new w brick outs state step tells up opens is notes =
    let nodes : ℕ → Node = put w.nodes brick.0 step.node in
    let counts : ℕ → ℕ = put (seqs_of w) brick.0 ((w.nodes brick.0).seq + reads_begun step.told) in
    let v : World = world_tells setting nodes w brick step.told in
    let last : World = world_answers v brick step.answers in
    let count : counts brick.0 ≡ (w.nodes brick.0).seq + reads_begun step.told = value_here (seqs_of w) brick.0 brick.0 _ refl in
    let first : TellsAt counts notes.heard v =
    tells_told setting nodes (seqs_of w) brick step.told old notes.heard w tells up opens.told
    (subst (λ (l : List Told). NotesTold brick l old notes.heard) is.told notes.told) in
    let second : TellsAt counts notes.ended last =
    tells_ends counts brick step.answers notes.heard notes.ended v first (ap (λ (f : ℕ → Bool). f brick.0) (up_told setting nodes w brick step.told) ∙ up)
    (answered_past (w.nodes brick.0).seq (counts brick.0) step.answers (omega (arith, count)) opens.answers)
    (subst (λ (l : List Answered). NotesEnds brick l notes.heard notes.ended) is.answers notes.answers) in
    tells_stepped setting new w brick step (packets_from brick outs.messages) (reports_of brick outs.reports) is.packets
    (ap (reports_of brick) is.reports) opens.boot opens.seq
    (tells_spoken counts notes.ended new last (packets_from brick outs.messages) (reports_of brick outs.reports) notes.rest notes.sent notes.reports second)

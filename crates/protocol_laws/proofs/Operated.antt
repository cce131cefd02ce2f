-- One operation changes, with messages and marks beside it.
use Rattle.fab_base.specs.declared.asks.Ask.{Ask}
use Rattle.std.proofs.Common.{◌≡◌, ◌≢◌, ℕ, ◌≤◌, ◌⊎◌, inl, inr, List, ◌++◌, length, Some, refl, sym, ap, ◌∙◌, subst, ⊎_elim, arith, []}
use Rattle.std.specs.Prelude.{slice_get}
use Rattle.fab_base.specs.declared.identities.BrickId.{BrickId}
use Rattle.fab_base.specs.declared.stamps.Stamp.{Stamp}
use Rattle.fab_base.specs.declared.answers.Answer.{Answer}
use Rattle.messages.specs.declared.packets.Packet.{Packet}
use Rattle.reg_model.specs.declared.marks.Mark.{Mark}
use Rattle.reg_model.specs.declared.marks.Mark.TheVariants.{End}
use Rattle.reg_model.specs.Marks.{life_of}
use Rattle.reg_model.specs.Walk.{last_of}
use Rattle.protocol.specs.Views.{Views}
use Rattle.protocol.specs.Settings.{Setting}
use Rattle.protocol.specs.Replicas.{top_of, Replica}
use Rattle.protocol.specs.Coordinators.{Coordinator}
use Rattle.protocol.specs.Nodes.{Node, put}
use Rattle.protocol.specs.Worlds.{World, Operation, with_held, choices_after}
use Rattle.protocol_laws.proofs.Books.{Books, IsOperation}
use Rattle.protocol_laws.proofs.Said.{Stamping, Said, StampsSay, IsMadeOrFirst, PacketSays, OperationSays, CallSays, EndShows, IsInOrder, FloorsAbove}
use Rattle.protocol_laws.proofs.Blocking.{LogsFit}
use Rattle.protocol.proofs.Tables.{put_each, get_grown}
use Rattle.protocol_laws.proofs.Stampings.{StampsGrow}
use Rattle.protocol_laws.proofs.Growth.{Grows, Continues, continues_same}
use Rattle.protocol_laws.proofs.Steps.{KeepsStamps, keeps_same, parts_by, sent_by, calls_by, jobs_kept, said_after, new_by, part_same}
use Rattle.protocol_laws.proofs.Tops.{KeepsPlaces}

-- the world after an operation changed
abbrev pub operated : World → BrickId → Node → List Packet → List Mark → ℕ → Operation → (ℕ → ℕ → Stamp → List ℕ) → World
operated w me node more marks n p contents =
    record {
      nodes = put w.nodes me.0 node;
      after = w.after;
      up = w.up;
      clocks = w.clocks;
      packets = w.packets ++ more;
      marks = marks;
      marked = w.marked;
      begun = w.begun;
      operations = put w.operations n (Some p);
      numbers = w.numbers;
      choices = choices_after w.choices me node [];
      past = w.past;
      contents = contents;
      held = with_held w.held me.0 node;
      replies = w.replies;
      reached = w.reached;
    }

-- what such a change keeps: operation n was o, is open, and goes on as p
pub record OperatedKeeps (w : World) (me : BrickId) (node : Node) (marks : List Mark) (n : ℕ) (o p : Operation)
    (contents : ℕ → ℕ → Stamp → List ℕ) : Type 0 where
  pub places : KeepsPlaces (w.nodes me.0) node
  pub boot : node.boot ≡ (w.nodes me.0).boot
  pub job : node.job ≡ (w.nodes me.0).job
  pub is : IsOperation w n o
  pub continues : Continues o p
  pub kept : (g s : ℕ) (t : Stamp) → IsMadeOrFirst w g s t → contents g s t ≡ w.contents g s t
  pub longer : length w.marks ≤ length marks
  pub lasts : (a : ℕ) → last_of (life_of w.marks a) ≤ last_of (life_of marks a)
  pub unended : 1 ≤ o.mark → length w.marks ≤ last_of (life_of marks o.mark)

module _ (setting : Setting) (views : Views) (w : World) (stamps later : Stamping) (me : BrickId) (node : Node) (more : List Packet) (marks : List Mark) (n : ℕ)
    (o p : Operation)
    (contents : ℕ → ℕ → Stamp → List ℕ) (keeps : OperatedKeeps w me node marks n o p contents) where
  abbrev next : World
  next = operated w me node more marks n p contents

  -- each operation goes on
  goes_on : (a : ℕ) (e : Operation) → IsOperation w a e → (d : Operation) × IsOperation next a d × Continues e d
  goes_on a e =
      put_each (λ i x. IsOperation w i e → (d : Operation) × (x ≡ Some d) × Continues e d) w.operations n (Some p)
      (λ is. let same : o ≡ e = (let z : Some o ≡ Some e = sym keeps.is
      ∙ is in cc) in (p, refl, subst (λ (z : Operation). Continues z p) same keeps.continues))
      (λ i other is. (e, is, continues_same e)) a

  -- each operation was there
  came_from : (a : ℕ) (d : Operation) → IsOperation next a d → (e : Operation) × IsOperation w a e × Continues e d
  came_from a d =
      put_each (λ i x. x ≡ Some d → (e : Operation) × IsOperation w i e × Continues e d) w.operations n (Some p)
      (λ is. let same : p ≡ d = cc in (o, keeps.is, subst (λ (z : Operation). Continues o z) same keeps.continues))
      (λ i other is. (d, is, continues_same d)) a

  pub operated_grows : LogsFit w → StampsGrow stamps later → Grows w next stamps later
  operated_grows logged grow = record {
    parts = parts_by w next me.0 node refl refl logged (keeps_same (w.nodes me.0) node keeps.places);
    fresh = new_by w next me.0 node refl refl;
    sent = sent_by w next more refl;
    operations = goes_on;
    contents = keeps.kept;
    grow = grow;
    numbered = λ i b k within. refl;
    marks = keeps.longer;
  }

  -- the operations stay in order: the one that changed is open
  stays_in_order : Said setting views w stamps → IsInOrder setting views next
  stays_in_order said a b earlier late u earlier_is late_is groups stripes marked version =
      let e = came_from a earlier earlier_is in
      let l = came_from b late late_is in
      put_each (λ i x. x ≡ Some earlier → i ≡ a
      → FloorsAbove setting views late u ⊎ (late.begin ≤ last_of (life_of marks earlier.mark))) w.operations n (Some p)
      (λ is at. let same : p ≡ earlier = cc in inr (begins_before b l.0 late l.1 l.2 earlier.mark (ap (λ (z : Operation). z.mark) same) marked))
      (λ i other is at.
      let old : IsOperation w a earlier = subst (λ (j : ℕ). IsOperation w j earlier) at is in
      ⊎_elim
      (λ (floors : FloorsAbove setting views l.0 u).
      inl (subst (λ (f : ℕ → Stamp). FloorsAbove setting views (record late { floor = f }) u) (sym l.2.floor)
      (subst (λ (x : Ask). FloorsAbove setting views (record late { ask = x; floor = l.0.floor }) u) (sym l.2.ask)
      (record { own = floors.own; before = floors.before }))))
      (λ (before : l.0.begin ≤ last_of (life_of w.marks earlier.mark)).
      inr (let begins : late.begin ≡ l.0.begin = l.2.begin in omega (arith, keeps.lasts earlier.mark)))
      (said.order a b earlier l.0 u old l.1 (groups ∙ ap (λ x. x.group.0) l.2.ask) (stripes ∙ ap (λ x. x.stripe.0) l.2.ask) marked version))
      a earlier_is refl
    where
      begins_before : (b : ℕ) (l late : Operation) → IsOperation w b l → Continues l late → (m : ℕ) → p.mark ≡ m → 1 ≤ m
          → late.begin ≤ last_of (life_of marks m)
      begins_before b l late l_is on m its some =
          let begin : l.begin ≤ length w.marks = (said.operations b l l_is).begin in
          let same : late.begin ≡ l.begin = on.begin in
          let mark : o.mark ≡ m = sym keeps.continues.mark ∙ its in
          let last : length w.marks ≤ last_of (life_of marks m)
          = subst (λ (j : ℕ). 1 ≤ j → length w.marks ≤ last_of (life_of marks j)) mark keeps.unended some in
          omega (arith, begin, same, last)

-- what such a change owes
pub record OperatedOwes (setting : Setting) (views : Views) (w next : World) (stamps later : Stamping) (me : BrickId) (node : Node) (more : List Packet) (n : ℕ)
    (p : Operation) : Type 0 where
  pub stamps_say : StampsSay next later
  pub stamps_other : (i b k : ℕ) → i ≢ me.0 → KeepsStamps stamps later i b k
  pub operation : OperationSays setting views next later n p
  pub calls : (k : ℕ) (c : Coordinator) → node.calls k ≡ Some c
      → (((w.nodes me.0).calls k ≡ Some c) × KeepsStamps stamps later me.0 (w.nodes me.0).boot k) ⊎ CallSays setting views next later me.0 k c
  pub packets : (k : ℕ) (packet : Packet) → slice_get more k ≡ Some packet → PacketSays setting views next later packet
  pub ends : (k q a : ℕ) (answer : Answer) → slice_get next.marks k ≡ Some (End q a answer)
      → (slice_get w.marks k ≡ Some (End q a answer)) ⊎ EndShows setting next a answer

-- the invariant holds after an operation changed
pub said_operated : (setting : Setting) (views : Views) (w : World) (stamps later : Stamping) (me : BrickId) (node : Node) (more : List Packet) (marks : List Mark)
    (n : ℕ)
    (o p : Operation) (contents : ℕ → ℕ → Stamp → List ℕ) → Books setting w → Said setting views w stamps → StampsGrow stamps later
    → OperatedKeeps w me node marks n o p contents
    → OperatedOwes setting views w (operated w me node more marks n p contents) stamps later me node more n p
    → Said setting views (operated w me node more marks n p contents) later
said_operated setting views w stamps later me node more marks n o p contents books said grow keeps owes =
    let after : World = operated w me node more marks n p contents in
    said_after setting views w after stamps later books said (operated_grows setting views w stamps later me node more marks n o p contents keeps said.logged grow) (record {
      stamps_say = owes.stamps_say;
      tops = λ g e s i. inl (ap (λ (r : Replica). top_of r) (part_same w after me.0 node refl keeps.places.2 g e s i));
      logs = λ g e s i k version is. inl (k, ap (λ (r : Replica). slice_get r.log k) (sym (part_same w after me.0 node refl keeps.places.2 g e s i)) ∙ is);
      lowest = λ g e s i x log within is. inl (log, ap (λ (r : Replica). r.log) (sym (part_same w after me.0 node refl keeps.places.2 g e s i)) ∙ is);
      packets = λ k packet is. ⊎_elim
          (λ (old : slice_get w.packets k ≡ Some packet). inl old)
          (λ (new : (j : ℕ) × (slice_get more j ≡ Some packet)). inr (owes.packets new.0 packet new.1))
          (get_grown w.packets more k packet is);
      operations = λ a e.
          put_each (λ i x. x ≡ Some e → IsOperation w i e ⊎ OperationSays setting views after later i e) w.operations n (Some p)
          (λ is. let same : p ≡ e = cc in inr (subst (λ (z : Operation). OperationSays setting views after later n z) same owes.operation))
          (λ i other is. inl is) a;
      calls = λ i k c.
          calls_by setting views w after stamps later me.0 node refl keeps.boot k c (owes.calls k c)
          (λ j other. owes.stamps_other j (w.nodes j).boot k other) i;
      jobs = jobs_kept setting views w after me.0 node refl keeps.job;
      ends = owes.ends;
      order = stays_in_order setting views w stamps later me node more marks n o p contents keeps said;
    })

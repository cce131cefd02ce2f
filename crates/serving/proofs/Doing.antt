-- What is done with what came, by what was sent.
use Rattle.std.proofs.Common.{◌≡◌, ℕ, ◌+◌, ◌<◌, ◌≤◌, nat_le, Bool, true, false, if◌then◌else◌, List, ◌++◌, Option, Some, None, Result, Ok, Err, OnOk, OnErr, IfErr, sym, ap, ◌∙◌, subst, inr, arith}
use Rattle.std.proofs.lemmas.Bool.Decides.{nat_tests}
use Rattle.fab_base.specs.declared.identities.BrickId.{BrickId}
use Rattle.fab_io.specs.declared.links.Datagram.{Datagram}
use Rattle.fab_io.specs.Datagrams.{Grows}
use Rattle.fab_io.proofs.Told.{Stays-refl, Grows-none}
use Rattle.messages.specs.declared.packets.Message.{Message}
use Rattle.fab_base.specs.declared.answers.Refusal.{Refusal}
use Rattle.protocol.specs.declared.tellings.Answered.{Answered}
use Rattle.protocol.specs.Nodes.{Node, NodeStep, put, ticked}
use Rattle.protocol.specs.Settings.{Setting}
use Rattle.serving.specs.declared.clients.Client.{Client}
use Rattle.serving.specs.declared.ports.Ports.{Ports}
use Rattle.serving.specs.declared.faults.ServeFault.{ServeFault}
use Rattle.serving.specs.declared.faults.ServeFault.TheVariants.{Disk, Halted, Link, Clock, NoMemory}
use Rattle.serving.specs.Datagrams.{datagrams_of, GrowsFront}
use Rattle.serving.specs.Faults.{AtLink}
use Rattle.serving.specs.Ports.{ports_of}
use Rattle.serving.specs.Serves.{Does}
use Rattle.serving.specs.Servings.{Serving, Served, idle, to_ports, waited, stepped, asked_by, still_waiting, answers_for}

-- it was done, and its datagrams were sent, or some of them
Does-sent : {T : Type 0} (before after : Serving) (sent sent_after : Option (List Datagram)) (does : Served) (r : Result T ServeFault)
    → after ≡ does.serving → OnOk r (Grows sent sent_after (datagrams_of does.sends)) → OnErr r (GrowsFront sent sent_after (datagrams_of does.sends))
    → IfErr r AtLink → Does before after sent sent_after does r
Does-sent before after sent sent_after does (Ok x) is whole front only = (is, whole)
Does-sent before after sent sent_after does (Err Link) is whole front only = (is, front)
Does-sent before after sent sent_after does (Err NoMemory) is whole front only = inr (is, front)
Does-sent before after sent sent_after does (Err Disk) is whole front only = absurd only
Does-sent before after sent sent_after does (Err Clock) is whole front only = absurd only
Does-sent before after sent sent_after does (Err Halted) is whole front only = absurd only

-- the same, where these are the messages that it sends
pub Does-as : {T : Type 0} (before after : Serving) (sent sent_after : Option (List Datagram)) (does : Served) (sends : List (ℕ × Message))
    (r : Result T ServeFault) → after ≡ does.serving → sends ≡ does.sends → OnOk r (Grows sent sent_after (datagrams_of sends))
    → OnErr r (GrowsFront sent sent_after (datagrams_of sends)) → IfErr r AtLink → Does before after sent sent_after does r
Does-as before after sent sent_after does sends r is same whole front only =
    Does-sent before after sent sent_after does r is
    (subst (λ (l : List (ℕ × Message)). OnOk r (Grows sent sent_after (datagrams_of l))) same whole)
    (subst (λ (l : List (ℕ × Message)). OnErr r (GrowsFront sent sent_after (datagrams_of l))) same front) only

-- nothing is done where there is nothing to do
pub Does-idle : {T : Type 0} (serving : Serving) (sent : Option (List Datagram)) (x : T) → Does serving serving sent sent (idle serving) (Ok x)
Does-idle serving sent x = (λ i. serving, Grows-none sent sent (Stays-refl sent))

-- it is time for a tick, or it is not
module _ (setting : Setting) (me : BrickId) (serving : Serving) (now : ℕ) where
  pub waited-due : serving.ticked + 100 ≤ now → waited setting me serving now
      ≡ record { serving = record serving { ticked = now }; sends = to_ports (ports_of setting.layout) (ticked setting me serving.node) }
  waited-due late =
      let due : nat_le (serving.ticked + 100) now ≡ true = grind (arith, nat_tests) in
      ap (λ (b : Bool). if b
      then (let does : Served = record { serving = record serving { ticked = now }; sends = to_ports (ports_of setting.layout) (ticked setting me serving.node) } in does)
      else idle serving) due

  pub waited-not : now < serving.ticked + 100 → waited setting me serving now ≡ idle serving
  waited-not early =
      let due : nat_le (serving.ticked + 100) now ≡ false = grind (arith, nat_tests) in
      ap (λ (b : Bool). if b
      then (let does : Served = record { serving = record serving { ticked = now }; sends = to_ports (ports_of setting.layout) (ticked setting me serving.node) } in does)
      else idle serving) due

  -- a turn that waits does nothing before it is time
  pub Does-early : {T : Type 0} (sent : Option (List Datagram)) (x : T) → now < serving.ticked + 100
      → Does serving serving sent sent (waited setting me serving now) (Ok x)
  Does-early sent x early =
      subst (λ (does : Served). Does serving serving sent sent does (Ok x)) (sym (waited-not early)) (Does-idle serving sent x)

-- a tick was made
pub Does-tick : {T : Type 0} (setting : Setting) (me : BrickId) (serving : Serving) (now : ℕ) (sent sent_after : Option (List Datagram))
    (sends : List (ℕ × Message)) (r : Result T ServeFault) → serving.ticked + 100 ≤ now
    → sends ≡ to_ports (ports_of setting.layout) (ticked setting me serving.node) → OnOk r (Grows sent sent_after (datagrams_of sends))
    → OnErr r (GrowsFront sent sent_after (datagrams_of sends)) → IfErr r AtLink
    → Does serving (record serving { ticked = now }) sent sent_after (waited setting me serving now) r
Does-tick setting me serving now sent sent_after sends r late same whole front only =
    let ticks : Served = record { serving = record serving { ticked = now }; sends = to_ports (ports_of setting.layout) (ticked setting me serving.node) } in
    subst (λ (does : Served). Does serving (record serving { ticked = now }) sent sent_after does r) (sym (waited-due setting me serving now late))
    (Does-as serving (record serving { ticked = now }) sent sent_after ticks sends r (λ i. record serving { ticked = now }) same whole front only)

-- a message was handed over
pub Does-stepped : {T : Type 0} (ports : Ports) (before after : Serving) (step : NodeStep) (answers : List Answered) (sent sent_after : Option (List Datagram))
    (packets replied : List (ℕ × Message)) (r : Result T ServeFault) → after.node ≡ step.node → answers ≡ step.answers
    → after.waiting ≡ still_waiting before.waiting answers → after.ticked ≡ before.ticked → packets ≡ to_ports ports step.packets
    → replied ≡ answers_for before.waiting answers → OnOk r (Grows sent sent_after (datagrams_of (packets ++ replied)))
    → OnErr r (GrowsFront sent sent_after (datagrams_of (packets ++ replied))) → IfErr r AtLink → Does before after sent sent_after (stepped ports before step) r
Does-stepped ports before after step answers sent sent_after packets replied r node same waiting at goes replies whole front only =
    let waits : after.waiting ≡ still_waiting before.waiting step.answers = waiting ∙ ap (still_waiting before.waiting) same in
    Does-as before after sent sent_after (stepped ports before step) (packets ++ replied) r
    (λ i. record { node = node i; waiting = waits i; ticked = at i })
    (ap (λ l. l ++ replied) goes ∙ ap (λ l. to_ports ports step.packets ++ l) (replies ∙ ap (answers_for before.waiting) same)) whole front only

-- an operation began
pub Does-begun : {T : Type 0} (ports : Ports) (before after : Serving) (client : Client) (step : NodeStep) (refusal : Option Refusal)
    (sent sent_after : Option (List Datagram)) (sends : List (ℕ × Message)) (r : Result T ServeFault) → refusal ≡ None → after.node ≡ step.node
    → after.waiting ≡ put before.waiting after.node.seq (Some client) → after.ticked ≡ before.ticked → sends ≡ to_ports ports step.packets
    → OnOk r (Grows sent sent_after (datagrams_of sends)) → OnErr r (GrowsFront sent sent_after (datagrams_of sends)) → IfErr r AtLink
    → Does before after sent sent_after (asked_by ports before client step refusal) r
Does-begun ports before after client step refusal sent sent_after sends r none node waiting at goes whole front only =
    let waits : after.waiting ≡ put before.waiting step.node.seq (Some client) =
    waiting ∙ ap (λ (n : Node). put before.waiting n.seq (Some client)) node in
    subst (λ (o : Option Refusal). Does before after sent sent_after (asked_by ports before client step o) r) (sym none)
    (Does-as before after sent sent_after (asked_by ports before client step None) sends r
    (λ i. record { node = node i; waiting = waits i; ticked = at i }) goes whole front only)

-- Which calls were asked of a host, by how a program ended.
use Rattle.std.proofs.Common.{◌≡◌, ℕ, zero, suc, ◌<◌, ◌+◌, arith, true, false, List, [], ◌∷◌, ◌++◌, Option, Some, None, Result, Ok, Err, inl, inr, refl, sym, ap, ◌∙◌, subst, append-nil, append_assoc, take}
use Rattle.fab_base.specs.declared.identities.BrickId.{BrickId}
use Rattle.fab_base.specs.Layouts.{Layout}
use Rattle.fab_host.specs.declared.hosts.Asked.{Asked}
use Rattle.fab_host.specs.declared.hosts.Asked.TheVariants as calls
use Rattle.hosting.specs.declared.hosted_bricks.TimedBricks.{TimedBricks}
use Rattle.hosting.specs.Hosted.{Hosted}
use Rattle.node.specs.Running.{Running}
use Rattle.serving.specs.Ports.{ports_of, port_of}
use Rattle.brick.specs.declared.endings.Ending.{Ending}
use Rattle.brick.specs.declared.endings.Ending.TheVariants.{Formatted, Ended, Commanded, Served, Usage, BadLayout, LongLayout, Source, Sink, Memory, Disk, Host, NotAStore, Worn}
use Rattle.brick_words.specs.declared.words.Task.{Task}
use Rattle.brick_words.specs.declared.words.Task.TheVariants.{Commands, Session}
use Rattle.brick_words.specs.declared.words.Work.{Work}
use Rattle.brick_words.specs.declared.words.Work.TheVariants.{Format, Serve, HostAll}
use Rattle.brick.specs.Bricks.{AsksInOrder, task_call, task_calls, brick_calls, calls_by, calls_of, DoesWork, GoesOn, Works}
use Rattle.brick.specs.Endings.{status_of, Prints}
use Rattle.brick.specs.Formats.{FormatsBrick, MakesStore}
use Rattle.brick.specs.Hosts.{HostSeen, IsRefused}
use Rattle.brick.specs.Layouts.{FindsLayout, brick_of}
use Rattle.brick.specs.Locals.{standard_input, timed, disk_name, HostsBySource, HostsBySession, DoesTask, HostsByClient, HostsByClock, HostsByLink, HostsOver, HostsBricks, HostsLayout}
use Rattle.brick.specs.Serves.{ServesByClock, ServesByLink, ServesOver, ServesByDisk, ServesBrick, RefusesStore}
use Rattle.brick.specs.Views.{Views, Streams, SessionView}
use Rattle.brick_words.specs.Words.{Wanted}
use Rattle.brick.proofs.Found.{brick_has}
use Rattle.brick.proofs.FromBrick.{from_first}

-- a status that is none of success
apart : (n : ℕ) → 0 < n → n ≡ 0 → ⊥
apart n some none = omega (arith, some, none)

usage_apart : (ending : Ending) → ending ≡ Usage → status_of ending ≡ 0 → ⊥
usage_apart ending is none = apart 2 (omega arith) (sym (ap status_of is) ∙ none)

-- the first of these calls were asked, and all of them where the program ended as it was to
abbrev Asks : List Asked → List Asked → List Asked → Ending → Type 0
Asks before after wants ending = ((k : ℕ) × (after ≡ before ++ take k wants)) × (status_of ending ≡ 0 → after ≡ before ++ wants)

asks_none : (before after wants : List Asked) (ending : Ending) → after ≡ before → (status_of ending ≡ 0 → ⊥) → Asks before after wants ending
asks_none before after wants ending is not = ((0, is ∙ sym (append-nil before)), λ e. absurd (not e))

asks_all : (before after : List Asked) (ending : Ending) → after ≡ before → Asks before after [] ending
asks_all before after ending is = ((0, is ∙ sym (append-nil before)), λ e. is ∙ sym (append-nil before))

asks_more : (before between after : List Asked) (call : Asked) (wants : List Asked) (ending : Ending) → between ≡ before ++ call ∷ []
    → Asks between after wants ending → Asks before after (call ∷ wants) ending
asks_more before between after call wants ending one more =
    ((suc more.0.0, more.0.1 ∙ joined (take more.0.0 wants)), λ e. more.1 e ∙ joined wants)
  where
    joined : (rest : List Asked) → between ++ rest ≡ before ++ (call ∷ rest)
    joined rest = ap (λ l. l ++ rest) one ∙ append_assoc before (call ∷ []) rest

-- the calls that were asked are told by an equal list too
asks_same : (before after ended wants : List Asked) (ending : Ending) → after ≡ ended → Asks before ended wants ending → Asks before after wants ending
asks_same before after ended wants ending is asks = subst (λ l. Asks before l wants ending) (sym is) asks

-- the first call alone
asks_one : (before after : List Asked) (call : Asked) (wants : List Asked) (ending : Ending) → after ≡ before ++ call ∷ [] → (status_of ending ≡ 0 → ⊥)
    → Asks before after (call ∷ wants) ending
asks_one before after call wants ending is not = asks_more before after after call wants ending is (asks_none after after wants ending refl not)

-- where nothing was opened by a call
refused : {S D L N C : Type 0} (before after : HostSeen S D L N C) (call : Asked) (wants : List Asked) (ending : Ending) → IsRefused before after call ending
    → Asks before.asked after.asked (call ∷ wants) ending
refused before after call wants (Formatted me) r = absurd r
refused before after call wants (Ended turns malformed) r = absurd r
refused before after call wants Commanded r = absurd r
refused before after call wants (Served end) r = absurd r
refused before after call wants Usage r = absurd r
refused before after call wants (BadLayout fault) r = absurd r
refused before after call wants LongLayout r = absurd r
refused before after call wants Source r = absurd r
refused before after call wants Sink r = absurd r
refused before after call wants Memory r = asks_none _ _ _ Memory r.0 (apart 7 (omega arith))
refused before after call wants Disk r = absurd r
refused before after call wants Host r = asks_one _ _ _ _ Host r.0.asked (apart 10 (omega arith))
refused before after call wants NotAStore r = absurd r
refused before after call wants Worn r = absurd r

-- a store that is not opened is no success
unopened : {D L C : Type 0} (v : Views D L C) (layout : Layout) (me : BrickId) (disk back : D) (ending : Ending)
    → RefusesStore v layout me disk back ending → status_of ending ≡ 0 → ⊥
unopened v layout me disk back (Formatted made) r = absurd r
unopened v layout me disk back (Ended turns malformed) r = absurd r
unopened v layout me disk back Commanded r = absurd r
unopened v layout me disk back (Served end) r = absurd r
unopened v layout me disk back Usage r = absurd r
unopened v layout me disk back (BadLayout fault) r = absurd r
unopened v layout me disk back LongLayout r = absurd r
unopened v layout me disk back Source r = absurd r
unopened v layout me disk back Sink r = absurd r
unopened v layout me disk back Memory r = apart 7 (omega arith)
unopened v layout me disk back Disk r = apart 9 (omega arith)
unopened v layout me disk back Host r = absurd r
unopened v layout me disk back NotAStore r = apart 11 (omega arith)
unopened v layout me disk back Worn r = apart 12 (omega arith)

-- by the clock
by_clock : {S D L N C : Type 0} (v : Views D L C) (turns : ℕ) (before after : HostSeen S D L N C) (node node_after : Running D) (link link_after : L)
    (out said : Option (List ℕ)) (ending : Ending) → ServesByClock v turns before after node node_after link link_after out said ending
    → Asks before.asked after.asked (calls.Clock ∷ []) ending
by_clock v turns before after node node_after link link_after out said ending s =
    elim s [
      | inl r ↦ refused before after calls.Clock [] ending r.0
      | inr b ↦ asks_more _ _ _ _ _ ending b.2.lends.asked (asks_all _ _ ending (b.2.asked ∙ ap (λ h. h.asked) b.2.does.0))
    ]

-- by the link
by_link : {S D L N C : Type 0} (v : Views D L C) (turns port : ℕ) (before after : HostSeen S D L N C) (node node_after : Running D)
    (out said : Option (List ℕ)) (ending : Ending) → ServesByLink v turns port before after node node_after out said ending
    → Asks before.asked after.asked (calls.Link port ∷ calls.Clock ∷ []) ending
by_link v turns port before after node node_after out said ending s =
    elim s [
      | inl r ↦ refused before after (calls.Link port) (calls.Clock ∷ []) ending r.0
      | inr b ↦ asks_more _ _ _ _ _ ending b.2.lends.asked
          (asks_same _ _ _ _ ending b.2.asked (by_clock v turns b.2.began b.2.ended node node_after b.0 b.1 out said ending b.2.does))
    ]

-- over a disk
over : {S D L N C : Type 0} (v : Views D L C) (layout : Layout) (me : BrickId) (turns : ℕ) (disk back : D) (before after : HostSeen S D L N C)
    (out said : Option (List ℕ)) (ending : Ending) → ServesOver v layout me turns disk back before after out said ending
    → Asks before.asked after.asked (calls.Link (port_of (ports_of layout) me) ∷ calls.Clock ∷ []) ending
over v layout me turns disk back before after out said ending s =
    elim s [
      | inl r ↦ asks_none _ _ _ ending (ap (λ h. h.asked) r.1) (unopened v layout me disk back ending r.0)
      | inr n ↦ by_link v turns (port_of (ports_of layout) me) before after n.node n.node_after out said ending n.serves
    ]

-- by the disk
by_disk : {S D L N C : Type 0} (v : Views D L C) (layout : Layout) (me : BrickId) (turns : ℕ) (before after : HostSeen S D L N C) (name : List ℕ)
    (out said : Option (List ℕ)) (ending : Ending) → ServesByDisk v layout me turns before after name out said ending
    → Asks before.asked after.asked (calls.Disk name false ∷ calls.Link (port_of (ports_of layout) me) ∷ calls.Clock ∷ []) ending
by_disk v layout me turns before after name out said ending s =
    elim s [
      | inl r ↦ refused before after (calls.Disk name false) (calls.Link (port_of (ports_of layout) me) ∷ calls.Clock ∷ []) ending r.0
      | inr b ↦ asks_more _ _ _ _ _ ending b.2.lends.asked
          (asks_same _ _ _ _ ending b.2.asked (over v layout me turns b.0 b.1 b.2.began b.2.ended out said ending b.2.does))
    ]

-- ---- tasks

-- the commands, by their source
by_commands : {S D L N C : Type 0} (e : Streams S N) (v : Views D L C) (layout : Layout) (turns : ℕ) (before after : HostSeen S D L N C)
    (bricks bricks_after : TimedBricks D L C) (link link_after : L) (out said : Option (List ℕ)) (ending : Ending)
    → HostsBySource e v layout turns before after bricks bricks_after link link_after out said ending
    → Asks before.asked after.asked (calls.Source standard_input ∷ []) ending
by_commands e v layout turns before after bricks bricks_after link link_after out said ending s =
    elim s [
      | inl r ↦ refused before after (calls.Source standard_input) [] ending r.0
      | inr b ↦ asks_more _ _ _ _ _ ending b.2.lends.asked (asks_all _ _ ending (b.2.asked ∙ ap (λ h. h.asked) b.2.does.0))
    ]

-- the session
by_session : {S D L N C : Type 0} (n : SessionView N) (v : Views D L C) (layout : Layout) (port turns : ℕ) (before after : HostSeen S D L N C)
    (bricks bricks_after : TimedBricks D L C) (link link_after : L) (ending : Ending)
    → HostsBySession n v layout port turns before after bricks bricks_after link link_after ending
    → Asks before.asked after.asked (calls.Session port ∷ []) ending
by_session n v layout port turns before after bricks bricks_after link link_after ending s =
    elim s [
      | inl r ↦ refused before after (calls.Session port) [] ending r.0
      | inr b ↦ asks_more _ _ _ _ _ ending b.2.lends.asked (asks_all _ _ ending (b.2.asked ∙ ap (λ h. h.asked) b.2.does.0))
    ]

-- by the task
by_task : {S D L N C : Type 0} (e : Streams S N) (v : Views D L C) (layout : Layout) (task : Task) (before after : HostSeen S D L N C)
    (bricks bricks_after : TimedBricks D L C) (link link_after : L) (out said : Option (List ℕ)) (ending : Ending)
    → DoesTask e v layout task before after bricks bricks_after link link_after out said ending
    → Asks before.asked after.asked (task_call task ∷ []) ending
by_task e v layout (Commands turns) before after bricks bricks_after link link_after out said ending s =
    by_commands e v layout turns before after bricks bricks_after link link_after out said ending s
by_task e v layout (Session port turns) before after bricks bricks_after link link_after out said ending s =
    by_session e.session v layout port turns before after bricks bricks_after link link_after ending s.0

-- by the client's link
by_client : {S D L N C : Type 0} (e : Streams S N) (v : Views D L C) (layout : Layout) (task : Task) (before after : HostSeen S D L N C)
    (bricks bricks_after : TimedBricks D L C) (out said : Option (List ℕ)) (ending : Ending)
    → HostsByClient e v layout task before after bricks bricks_after out said ending
    → Asks before.asked after.asked (calls.Link 0 ∷ task_call task ∷ []) ending
by_client e v layout task before after bricks bricks_after out said ending s =
    elim s [
      | inl r ↦ refused before after (calls.Link 0) (task_call task ∷ []) ending r.0
      | inr b ↦ asks_more _ _ _ _ _ ending b.2.lends.asked
          (asks_same _ _ _ _ ending b.2.asked (by_task e v layout task b.2.began b.2.ended bricks bricks_after b.0 b.1 out said ending b.2.does))
    ]

-- by the clock
by_hosting : {S D L N C : Type 0} (e : Streams S N) (v : Views D L C) (layout : Layout) (task : Task) (before after : HostSeen S D L N C)
    (bricks bricks_after : List (Hosted D L)) (out said : Option (List ℕ)) (ending : Ending)
    → HostsByClock e v layout task before after bricks bricks_after out said ending → Asks before.asked after.asked (task_calls task) ending
by_hosting e v layout task before after bricks bricks_after out said ending s =
    elim s [
      | inl r ↦ refused before after calls.Clock (calls.Link 0 ∷ task_call task ∷ []) ending r.0
      | inr b ↦ asks_more _ _ _ _ _ ending b.3.lends.asked
          (asks_same _ _ _ _ ending b.3.asked (by_client e v layout task b.3.began b.3.ended (timed layout bricks b.0) b.1 out said ending b.3.does))
    ]

-- by the bricks that are left
by_bricks : {S D L N C : Type 0} (e : Streams S N) (v : Views D L C) (layout : Layout) (prefix : List ℕ) (task : Task)
    (out said : Option (List ℕ)) (ending : Ending) (left id : ℕ) (bricks bricks_after : List (Hosted D L)) (before after : HostSeen S D L N C)
    → HostsBricks e v layout prefix task out said ending left id bricks bricks_after before after
    → Asks before.asked after.asked (brick_calls layout prefix task left id) ending
by_bricks e v layout prefix task out said ending zero id bricks bricks_after before after s =
    by_hosting e v layout task before after bricks bricks_after out said ending s
by_bricks {S} {D} {L} {N} {C} e v layout prefix task out said ending (suc left) id bricks bricks_after before after s =
    elim s [
      | inl r ↦ refused before after (calls.Disk name false) (calls.Link port ∷ rest) ending r.0
      | inr b ↦ asks_more _ _ _ _ _ ending b.2.lends.asked (asks_same _ _ _ _ ending b.2.asked
          (opened (λ more more_after began ended done. by_bricks e v layout prefix task out said ending left (id + 1) more more_after began ended done)
          b.0 b.1 b.2.began b.2.ended b.2.does))
    ]
  where
    me : BrickId
    me = record { 0 = id }

    name : List ℕ
    name = disk_name prefix me

    port : ℕ
    port = port_of (ports_of layout) me

    rest : List Asked
    rest = brick_calls layout prefix task left (id + 1)

    next : List (Hosted D L) → List (Hosted D L) → HostSeen S D L N C → HostSeen S D L N C → Type 0
    next = HostsBricks e v layout prefix task out said ending left (id + 1)

    -- what is done next asks for the rest
    AsksRest : Type 0
    AsksRest = (more more_after : List (Hosted D L)) (began ended : HostSeen S D L N C) → next more more_after began ended → Asks began.asked ended.asked rest ending

    linked : AsksRest → (began ended : HostSeen S D L N C) (node node_after : Running D)
        → HostsByLink port next began ended bricks bricks_after node node_after out said ending → Asks began.asked ended.asked (calls.Link port ∷ rest) ending
    linked then began ended node node_after s =
        elim s [
          | inl r ↦ refused began ended (calls.Link port) rest ending r.0
          | inr b ↦ asks_more _ _ _ _ _ ending b.2.lends.asked (asks_same _ _ _ _ ending b.2.asked (then _ _ b.2.began b.2.ended b.2.does.5))
        ]

    opened : AsksRest → (disk back : D) (began ended : HostSeen S D L N C) → HostsOver v layout me next disk back began ended bricks bricks_after out said ending
        → Asks began.asked ended.asked (calls.Link port ∷ rest) ending
    opened then disk back began ended s =
        elim s [
          | inl r ↦ asks_none _ _ _ ending (ap (λ h. h.asked) r.1) (unopened v layout me disk back ending r.0)
          | inr n ↦ linked then began ended n.node n.node_after n.hosts
        ]

-- of all bricks
by_layout : {S D L N C : Type 0} (e : Streams S N) (v : Views D L C) (layout : Layout) (prefix : List ℕ) (task : Task)
    (before after : HostSeen S D L N C) (out said : Option (List ℕ)) (ending : Ending) → HostsLayout e v layout prefix task before after out said ending
    → Asks before.asked after.asked (brick_calls layout prefix task layout.bricks 0) ending
by_layout e v layout prefix task before after out said ending s =
    elim s [
      | inl r ↦ asks_none _ _ _ ending (ap (λ h. h.asked) r.1) (λ none. apart 7 (omega arith) (sym (ap status_of r.0) ∙ none))
      | inr b ↦ by_bricks e v layout prefix task out said ending layout.bricks 0 [] [] before after
          (from_first e v layout prefix task out said ending [] [] before after b)
    ]

-- ---- by the work

-- where a store was to be made
making : {S D L N C : Type 0} (tells : Type 0) (seen : D → List ℕ) (may_leave : D → List ℕ → Type 0) (failed : D → ℕ) (layout : Layout) (me : BrickId)
    (before after : HostSeen S D L N C) (name : List ℕ) (ending : Ending) → MakesStore tells seen may_leave failed layout me before after name ending
    → Asks before.asked after.asked (calls.Disk name true ∷ []) ending
making tells seen may_leave failed layout me before after name (Formatted made) f =
    asks_more _ _ _ _ _ (Formatted made) f.1.1.asked (asks_all _ _ (Formatted made) refl)
making tells seen may_leave failed layout me before after name (Ended turns malformed) f = absurd f
making tells seen may_leave failed layout me before after name Commanded f = absurd f
making tells seen may_leave failed layout me before after name (Served end) f = absurd f
making tells seen may_leave failed layout me before after name Usage f = absurd f
making tells seen may_leave failed layout me before after name (BadLayout fault) f = absurd f
making tells seen may_leave failed layout me before after name LongLayout f = absurd f
making tells seen may_leave failed layout me before after name Source f = absurd f
making tells seen may_leave failed layout me before after name Sink f = absurd f
making tells seen may_leave failed layout me before after name Memory f =
    elim f [
      | inl none ↦ asks_none _ _ _ Memory none.0 (apart 7 (omega arith))
      | inr made ↦ asks_one _ _ _ _ Memory made.1.asked (apart 7 (omega arith))
    ]
making tells seen may_leave failed layout me before after name Disk f = asks_one _ _ _ _ Disk f.2.asked (apart 9 (omega arith))
making tells seen may_leave failed layout me before after name Host f = asks_one _ _ _ _ Host f.0.asked (apart 10 (omega arith))
making tells seen may_leave failed layout me before after name NotAStore f = absurd f
making tells seen may_leave failed layout me before after name Worn f = absurd f

-- a brick that a layout has
formatting : {S D L N C : Type 0} (tells : Type 0) (seen : D → List ℕ) (may_leave : D → List ℕ → Type 0) (failed : D → ℕ) (layout : Layout)
    (me : Option BrickId) (before after : HostSeen S D L N C) (name : List ℕ) (ending : Ending)
    → FormatsBrick tells seen may_leave failed layout me before after name ending → Asks before.asked after.asked (calls.Disk name true ∷ []) ending
formatting tells seen may_leave failed layout None before after name ending f =
    asks_none _ _ _ ending (ap (λ h. h.asked) f.1) (usage_apart ending f.0)
formatting tells seen may_leave failed layout (Some me) before after name ending f = making tells seen may_leave failed layout me before after name ending f

-- where the brick is one of the number that was looked for, if it is any
by_brick : {S D L N C : Type 0} (v : Views D L C) (layout : Layout) (id : ℕ) (me : Option BrickId) (turns : ℕ) (before after : HostSeen S D L N C) (name : List ℕ)
    (out said : Option (List ℕ)) (ending : Ending) → ((b : BrickId) → me ≡ Some b → b ≡ record { 0 = id }) → ServesBrick v layout me turns before after name out said ending
    → Asks before.asked after.asked (calls_by layout name (Serve id turns)) ending
by_brick v layout id None turns before after name out said ending is s =
    asks_none _ _ _ ending (ap (λ h. h.asked) s.1) (usage_apart ending s.0)
by_brick v layout id (Some me) turns before after name out said ending is s =
    subst (λ (b : BrickId). Asks before.asked after.asked (calls.Disk name false ∷ calls.Link (port_of (ports_of layout) b) ∷ calls.Clock ∷ []) ending) (is me refl)
    (by_disk v layout me turns before after name out said ending s)

-- by the work
working : {S D L N C : Type 0} (e : Streams S N) (v : Views D L C) (layout : Layout) (name : List ℕ) (work : Work) (before after : HostSeen S D L N C) (out said : Option (List ℕ))
    (ending : Ending) → DoesWork e v layout name work before after out said ending → Asks before.asked after.asked (calls_by layout name work) ending
working e v layout name (Format id) before after out said ending d =
    formatting v.disk.tells v.disk.seen v.disk.may_leave v.disk.faults layout (brick_of layout id) before after name ending d.0
working e v layout name (Serve id turns) before after out said ending d =
    by_brick v layout id (brick_of layout id) turns before after name out said ending (λ me is. sym (brick_has layout id me is).1) d
working e v layout prefix (HostAll task) before after out said ending d =
    by_layout e v layout prefix task before after out said ending d

-- where no layout was found
unfound : {S D L N C : Type 0} (told : S → Option (List ℕ)) (failed : S → ℕ) (before after : HostSeen S D L N C) (source : List ℕ) (ending : Ending)
    → FindsLayout told failed before after source (Err ending) → Asks before.asked after.asked (calls.Source source ∷ []) ending
unfound told failed before after source (Formatted me) f = absurd f.gives
unfound told failed before after source (Ended turns malformed) f = absurd f.gives
unfound told failed before after source Commanded f = absurd f.gives
unfound told failed before after source (Served end) f = absurd f.gives
unfound told failed before after source Usage f = absurd f.gives
unfound told failed before after source (BadLayout fault) f = asks_one _ _ _ _ (BadLayout fault) f.asks.asked (apart 3 (omega arith))
unfound told failed before after source LongLayout f = asks_one _ _ _ _ LongLayout f.asks.asked (apart 3 (omega arith))
unfound told failed before after source Source f = asks_one _ _ _ _ Source f.asks.asked (apart 5 (omega arith))
unfound told failed before after source Sink f = absurd f.gives
unfound told failed before after source Memory f =
    elim f [
      | inl none ↦ asks_none _ _ _ Memory none.0 (apart 7 (omega arith))
      | inr read ↦ asks_one _ _ _ _ Memory read.asks.asked (apart 7 (omega arith))
    ]
unfound told failed before after source Disk f = absurd f.gives
unfound told failed before after source Host f = asks_one _ _ _ _ Host f.0.asked (apart 10 (omega arith))
unfound told failed before after source NotAStore f = absurd f.gives
unfound told failed before after source Worn f = absurd f.gives

-- at any end
going_on : {S D L N C : Type 0} (e : Streams S N) (v : Views D L C) (before between after : HostSeen S D L N C) (w : Wanted)
    (out said : Option (List ℕ)) (found : Result Layout Ending) (ending : Ending) → FindsLayout e.told e.failed before between w.layout found
    → GoesOn e v w found between after out said ending → Asks before.asked after.asked (calls_of w found) ending
going_on e v before between after w out said (Ok layout) ending finds goes =
    asks_more _ _ _ _ _ ending finds.asks.asked (working e v layout w.name w.work between after out said ending goes)
going_on e v before between after w out said (Err found) ending finds goes =
    subst (λ (e : Ending). Asks before.asked after.asked (calls.Source w.layout ∷ []) e) (sym goes.0)
    (asks_same _ _ _ _ found (ap (λ h. h.asked) goes.1) (unfound e.told e.failed before between w.layout found finds))

-- status 0 is that of a program that ended as it was to
of_status : (old new : Option (List ℕ)) (text : List ℕ) (wanted status : ℕ) → Prints old new text wanted status → status ≡ 0 → wanted ≡ 0
of_status old new text wanted status (inl (same, all)) none = sym same ∙ none
of_status old new text wanted status (inr (inl (six, some))) none = cc
of_status old new text wanted status (inr (inr (seven, kept))) none = cc

pub in_order : {S D L N C : Type 0} (e : Streams S N) (v : Views D L C) (before after : HostSeen S D L N C) (w : Wanted)
    (out said : Option (List ℕ)) (ending : Ending) (new : Option (List ℕ)) (text : List ℕ) (status : ℕ)
    (works : Works e v before after w out said ending) → Prints said new text (status_of ending) status
    → AsksInOrder before.asked after.asked (calls_of w works.found) status
in_order e v before after w out said ending new text status works prints =
    let asks = going_on e v before works.between after w out said works.found ending works.finds works.goes_on in
    record { some = asks.0; all = λ none. asks.1 (of_status said new text (status_of ending) status prints none) }

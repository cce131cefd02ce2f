-- Over a host that holds what the words want, the work is done, or memory was lacking.
use Rattle.std.proofs.Common.{◌≡◌, ◌≢◌, ℕ, ◌<◌, ◌≤◌, false, arith, List, length, Option, Some, None, IfSome, Result, Ok, Err, inl, inr, refl, sym, ap, ◌∙◌, subst, lt-ltb}
use Rattle.std.proofs.lemmas.Bool.{cases_Bool}
use Rattle.std.proofs.lemmas.Slice.Eq.{bytes_eq-Decides}
use Rattle.std.specs.Str.{bytes_eq}
use Rattle.fab_base.specs.declared.identities.BrickId.{BrickId}
use Rattle.fab_base.specs.Layouts.{Layout}
use Rattle.layout.specs.Texts.{layout_of}
use Rattle.fab_host.specs.Held.{Held, absent, lent, here, IsMissing}
use Rattle.fab_host.specs.Holdings.{Holdings, with_disk, with_link, IsFree}
use Rattle.fab_host.specs.Opening.{WhereTold}
use Rattle.serving.specs.Ports.{ports_of, port_of}
use Rattle.brick.specs.declared.endings.Ending.{Ending}
use Rattle.brick.specs.declared.endings.Ending.TheVariants.{Formatted, Ended, Commanded, Served, Usage, BadLayout, LongLayout, Source, Sink, Memory, Disk, Host, NotAStore, Worn}
use Rattle.brick_words.specs.declared.words.Work.{Work}
use Rattle.brick_words.specs.declared.words.Work.TheVariants.{Format, Serve, HostAll}
use Rattle.brick.specs.Bricks.{MayDo, MayRun}
use Rattle.brick.specs.Endings.{IsDone}
use Rattle.brick.specs.Formats.{FormatsBrick}
use Rattle.brick.specs.Hosts.{HostSeen, Told, Has, ReturnsSource}
use Rattle.brick.specs.Layouts.{most_layout_bytes, Says, ReadsSource, FindsLayout, HoldsLayout, brick_of}
use Rattle.brick.specs.Serves.{MayStart, HasClock, HasDisk, HasLink}
use Rattle.brick.proofs.Lending.{has_after, has_apart}

-- what is here is one thing
pub here_same : {T : Type 0} (held : Held T) (a b : T) → held ≡ here a → held ≡ here b → a ≡ b
here_same held a b is same = cc

here_absent : {T : Type 0} (held : Held T) (a : T) → held ≡ here a → held ≡ absent → ⊥
here_absent held a is gone = cc

pub here_missing : {T : Type 0} (held : Held T) (a : T) → held ≡ here a → IsMissing held → ⊥
here_missing held a is missing = subst IsMissing is missing

ok_same : {A B : Type 0} (r : Result A B) (a b : A) → r ≡ Ok a → r ≡ Ok b → a ≡ b
ok_same r a b is same = cc

ok_err : {A B : Type 0} (r : Result A B) (a : A) (b : B) → r ≡ Ok a → r ≡ Err b → ⊥
ok_err r a b is same = cc

-- what the source that was read tells is the text that is held
text_said : {S D L N C : Type 0} (told : S → Option (List ℕ)) (h n : Holdings S D L N C) (source : List ℕ) (layout : Layout) (opened back : S)
    (P : List ℕ → Type 0) → ReturnsSource source opened back h n → (m : HoldsLayout told h source layout) → IfSome (told opened) P → P m.text
text_said told h n source layout opened back P r m said =
    subst (λ (o : Option (List ℕ)). IfSome o P) (ap told (here_same (h.sources source) opened m.opened r.was m.held) ∙ m.tells) said

-- and the layout is the one that is found
pub layout_same : {S D L N C : Type 0} (told : S → Option (List ℕ)) (h n : Holdings S D L N C) (source : List ℕ) (layout found : Layout)
    (opened back : S) → ReturnsSource source opened back h n → (m : HoldsLayout told h source layout) → IfSome (told opened) (Says (Ok found))
    → layout ≡ found
layout_same told h n source layout found opened back r m said =
    ok_same (layout_of m.text) layout found m.says.1 (text_said told h n source layout opened back (Says (Ok found)) r m said).1

-- the name of a disk is free still
free_still : {S D L N C : Type 0} (h n : Holdings S D L N C) (source disk : List ℕ) (opened back : S) → ReturnsSource source opened back h n
    → IsFree h disk → IsFree n disk
free_still h n source disk opened back r free =
    (r.others disk apart ∙ free.0, ap (λ d. d disk) r.disks ∙ free.1)
  where
    apart : bytes_eq source disk ≡ false
    apart =
        elim (cases_Bool (bytes_eq source disk)) [
          | inl hit ↦ absurd (here_absent (h.sources disk) opened
              (subst (λ (k : List ℕ). h.sources k ≡ here opened) ((bytes_eq-Decides source disk).0 hit) r.was) free.0)
          | inr miss ↦ miss
        ]

-- a disk, the link and the clock are held still
disk_still : {S D L N C : Type 0} (tells : Type 0) (seen : D → List ℕ) (layout : Layout) (me : BrickId) (h n : Holdings S D L N C) (source name : List ℕ)
    (opened back : S) → ReturnsSource source opened back h n → HasDisk tells seen layout me name h → HasDisk tells seen layout me name n
disk_still tells seen layout me h n source name opened back r has = record {
  disk = has.disk;
  held = ap (λ d. d name) r.disks ∙ has.held;
  starts = has.starts;
  others = record {
    link = λ missing. has.others.link (subst (λ l. IsMissing (l (port_of (ports_of layout) me))) r.links missing);
    clock = λ missing. has.others.clock (subst IsMissing r.clock missing);
  };
}

-- a layout is held
abbrev IsHeld : {S D L N C : Type 0} → (S → Option (List ℕ)) → List ℕ → Holdings S D L N C → Type 0
IsHeld told source h = (layout : Layout) × HoldsLayout told h source layout

held_by : {S D L N C : Type 0} (told : S → Option (List ℕ)) (tells : Type 0) (seen : D → List ℕ) (h : Holdings S D L N C) (source name : List ℕ) (work : Work)
    → MayDo told tells seen h source name work → IsHeld told source h
held_by told tells seen h source name (Format id) m = (m.layout, m.holds)
held_by told tells seen h source name (Serve id turns) m = (m.layout, m.holds)
held_by told tells seen h source name (HostAll task) m = (m.layout, m.holds)

has_held : {S D L N C : Type 0} (told : S → Option (List ℕ)) (tells : Type 0) (seen : D → List ℕ) (holds : Option (Holdings S D L N C)) (source name : List ℕ)
    (work : Work) → MayRun told tells seen holds (Some (record { layout = source; name = name; work = work })) → Has holds (IsHeld told source)
has_held told tells seen None source name work m = m
has_held told tells seen (Some h) source name work m = held_by told tells seen h source name work m

-- a source that is held says a layout, and no fault
no_fault : {S D L N C : Type 0} (told : S → Option (List ℕ)) (holds now : Option (Holdings S D L N C)) (source : List ℕ) (opened back : S) (P : List ℕ → Type 0)
    → Told holds now (ReturnsSource source opened back) → Has holds (IsHeld told source) → IfSome (told opened) P
    → ((text : List ℕ) (layout : Layout) → Says (Ok layout) text → P text → ⊥) → ⊥
no_fault told None now source opened back P r has said apart = has
no_fault told (Some h) None source opened back P r has said apart = r
no_fault told (Some h) (Some n) source opened back P r has said apart =
    apart has.1.text has.0 has.1.says (text_said told h n source has.0 opened back P r has.1 said)

-- so it is found, or memory was lacking
pub found_done : {S D L N C : Type 0} (told : S → Option (List ℕ)) (tells : Type 0) (seen : D → List ℕ) (failed : S → ℕ) (before after : HostSeen S D L N C)
    (source name : List ℕ) (work : Work) (ending : Ending) → FindsLayout told failed before after source (Err ending)
    → MayRun told tells seen before.holds (Some (record { layout = source; name = name; work = work }))
    → ending ≢ Source → (ending ≡ Host → WhereTold before.holds (λ h. IsMissing (h.sources source))) → IsDone ending
found_done told tells seen failed before after source name work ending f m not_source missing =
    ends ending f (has_held told tells seen before.holds source name work m) not_source missing
  where
    ends : (ending : Ending) → FindsLayout told failed before after source (Err ending) → Has before.holds (IsHeld told source) → ending ≢ Source
        → (ending ≡ Host → WhereTold before.holds (λ h. IsMissing (h.sources source))) → IsDone ending
    ends (Formatted me) f has not_source missing = tt
    ends (Ended turns malformed) f has not_source missing = tt
    ends Commanded f has not_source missing = tt
    ends (Served end) f has not_source missing = tt
    ends Usage f has not_source missing = absurd f.gives
    ends (BadLayout fault) f has not_source missing =
        absurd (no_fault told before.holds after.holds source f.opened f.back (Says (Err fault)) f.asks.told has f.gives.1
        (λ text layout ok err. ok_err (layout_of text) layout fault ok.1 err.1))
    ends LongLayout f has not_source missing =
        absurd (no_fault told before.holds after.holds source f.opened f.back (λ text. most_layout_bytes < length text) f.asks.told has f.gives
        (λ text layout ok long. (let short : length text ≤ most_layout_bytes = ok.0 in omega (arith, short, long))))
    ends Source f has not_source missing = absurd (not_source refl)
    ends Sink f has not_source missing = absurd f.gives
    ends Memory f has not_source missing = tt
    ends Disk f has not_source missing = absurd f.gives
    ends Host f has not_source missing =
        absurd (has_apart before.holds has (missing refl) (λ h held gone. here_missing (h.sources source) held.1.opened held.1.held gone))
    ends NotAStore f has not_source missing = absurd f.gives
    ends Worn f has not_source missing = absurd f.gives

-- the brick of a number that the layout has is found
pub brick_found : (layout : Layout) (id : ℕ) → id < layout.bricks → brick_of layout id ≡ None → ⊥
brick_found layout id has none = absurd (some_none (rw (lt-ltb id layout.bricks has) at none))
  where
    some_none : {A : Type 0} {a : A} → Some a ≡ None → ⊥
    some_none e = cc

-- a brick that is there, on a fresh name, is formatted
made_done : {S D L N C : Type 0} (tells : Type 0) (seen : D → List ℕ) (may_leave : D → List ℕ → Type 0) (failed : D → ℕ) (layout : Layout) (me : Option BrickId)
    (before after : HostSeen S D L N C) (name : List ℕ) (ending : Ending) → FormatsBrick tells seen may_leave failed layout me before after name ending
    → (me ≡ None → ⊥) → ending ≢ Disk → (ending ≡ Host → WhereTold before.holds (λ h. ¬ (IsFree h name)))
    → Has before.holds (λ h. IsFree h name) → IsDone ending
made_done tells seen may_leave failed layout None before after name ending f some not_disk taken free = absurd (some refl)
made_done tells seen may_leave failed layout (Some me) before after name (Formatted made) f some not_disk taken free = tt
made_done tells seen may_leave failed layout (Some me) before after name (Ended turns malformed) f some not_disk taken free = tt
made_done tells seen may_leave failed layout (Some me) before after name Commanded f some not_disk taken free = tt
made_done tells seen may_leave failed layout (Some me) before after name (Served end) f some not_disk taken free = tt
made_done tells seen may_leave failed layout (Some me) before after name Usage f some not_disk taken free = absurd f
made_done tells seen may_leave failed layout (Some me) before after name (BadLayout fault) f some not_disk taken free = absurd f
made_done tells seen may_leave failed layout (Some me) before after name LongLayout f some not_disk taken free = absurd f
made_done tells seen may_leave failed layout (Some me) before after name Source f some not_disk taken free = absurd f
made_done tells seen may_leave failed layout (Some me) before after name Sink f some not_disk taken free = absurd f
made_done tells seen may_leave failed layout (Some me) before after name Memory f some not_disk taken free = tt
made_done tells seen may_leave failed layout (Some me) before after name Disk f some not_disk taken free = absurd (not_disk refl)
made_done tells seen may_leave failed layout (Some me) before after name Host f some not_disk taken free =
    absurd (has_apart before.holds free (taken refl) (λ h is not. not is))
made_done tells seen may_leave failed layout (Some me) before after name NotAStore f some not_disk taken free = absurd f
made_done tells seen may_leave failed layout (Some me) before after name Worn f some not_disk taken free = absurd f

-- once the layout was found, the brick is there and the disk's name is free
may_format : {S D L N C : Type 0} (told : S → Option (List ℕ)) (tells : Type 0) (seen : D → List ℕ) (holds now : Option (Holdings S D L N C))
    (source name : List ℕ) (id : ℕ) (found : Layout) (opened back : S) → Told holds now (ReturnsSource source opened back)
    → IfSome (told opened) (Says (Ok found)) → MayRun told tells seen holds (Some (record { layout = source; name = name; work = Format id }))
    → (id < found.bricks) × Has now (λ h. IsFree h name)
may_format told tells seen None now source name id found opened back r said m = absurd m
may_format told tells seen (Some h) None source name id found opened back r said m = absurd r
may_format told tells seen (Some h) (Some n) source name id found opened back r said m = (
  subst (λ (l : Layout). id < l.bricks) (layout_same told h n source m.layout found opened back r m.holds said) m.has,
  free_still h n source name opened back r m.free,
)

pub format_done : {S D L N C : Type 0} (told : S → Option (List ℕ)) (tells : Type 0) (seen : D → List ℕ) (source_failed : S → ℕ)
    (may_leave : D → List ℕ → Type 0) (failed : D → ℕ) (before between after : HostSeen S D L N C) (source name : List ℕ) (work : Work) (id : ℕ)
    (found : Layout) (ending : Ending) → work ≡ Format id → ReadsSource told source_failed before between source (Ok found)
    → MayRun told tells seen before.holds (Some (record { layout = source; name = name; work = work }))
    → FormatsBrick tells seen may_leave failed found (brick_of found id) between after name ending → ending ≢ Disk
    → (ending ≡ Host → WhereTold between.holds (λ h. ¬ (IsFree h name))) → IsDone ending
format_done told tells seen source_failed may_leave failed before between after source name work id found ending is reads m formats not_disk taken =
    let may = may_format told tells seen before.holds between.holds source name id found reads.opened reads.back reads.asks.told reads.gives
    (subst (λ (w : Work). MayRun told tells seen before.holds (Some (record { layout = source; name = name; work = w }))) is m) in
    made_done tells seen may_leave failed found (brick_of found id) between after name ending formats (brick_found found id may.0) not_disk taken may.1

-- and the brick is there, with its store, its link and the clock
may_serve : {S D L N C : Type 0} (told : S → Option (List ℕ)) (tells : Type 0) (seen : D → List ℕ) (holds now : Option (Holdings S D L N C))
    (source name : List ℕ) (id turns : ℕ) (found : Layout) (opened back : S) → Told holds now (ReturnsSource source opened back)
    → IfSome (told opened) (Says (Ok found)) → MayRun told tells seen holds (Some (record { layout = source; name = name; work = Serve id turns }))
    → (id < found.bricks) × Has now (HasDisk tells seen found (record { 0 = id }) name)
may_serve told tells seen None now source name id turns found opened back r said m = absurd m
may_serve told tells seen (Some h) None source name id turns found opened back r said m = absurd r
may_serve told tells seen (Some h) (Some n) source name id turns found opened back r said m =
    let same : m.layout ≡ found = layout_same told h n source m.layout found opened back r m.holds said in (
      subst (λ (l : Layout). id < l.bricks) same m.has,
      disk_still tells seen found (record { 0 = id }) h n source name opened back r
          (subst (λ (l : Layout). HasDisk tells seen l (record { 0 = id }) name h) same m.store),
    )

pub serve_goes : {S D L N C : Type 0} (told : S → Option (List ℕ)) (tells : Type 0) (seen : D → List ℕ) (source_failed : S → ℕ)
    (before between : HostSeen S D L N C) (source name : List ℕ) (work : Work) (id turns : ℕ) (found : Layout) → work ≡ Serve id turns
    → ReadsSource told source_failed before between source (Ok found)
    → MayRun told tells seen before.holds (Some (record { layout = source; name = name; work = work }))
    → (id < found.bricks) × Has between.holds (HasDisk tells seen found (record { 0 = id }) name)
serve_goes told tells seen source_failed before between source name work id turns found is reads m =
    may_serve told tells seen before.holds between.holds source name id turns found reads.opened reads.back reads.asks.told reads.gives
    (subst (λ (w : Work). MayRun told tells seen before.holds (Some (record { layout = source; name = name; work = w }))) is m)

-- the disk that was lent may be started, and the link and the clock are held still
pub lent_starts : {S D L N C : Type 0} (tells : Type 0) (seen : D → List ℕ) (layout : Layout) (me : BrickId) (before after : Option (Holdings S D L N C))
    (name : List ℕ) (thing : D) → Told before after (λ h now. (h.disks name ≡ here thing) × (now ≡ with_disk h name lent))
    → Has before (HasDisk tells seen layout me name)
    → MayStart tells seen layout me thing × Has after (HasLink (port_of (ports_of layout) me))
lent_starts tells seen layout me None after name thing lends has = absurd has
lent_starts tells seen layout me (Some h) None name thing lends has = absurd lends
lent_starts tells seen layout me (Some h) (Some n) name thing (is, now) has = (
  subst (λ d. MayStart tells seen layout me d) (here_same (h.disks name) has.disk thing has.held is) has.starts,
  subst (HasLink (port_of (ports_of layout) me)) (sym now) (record { link = has.others.link; clock = has.others.clock }),
)

-- a disk that is held is there to be lent
pub disk_there : {S D L N C : Type 0} (tells : Type 0) (seen : D → List ℕ) (layout : Layout) (me : BrickId) (name : List ℕ) (h : Holdings S D L N C)
    → HasDisk tells seen layout me name h → IsMissing (h.disks name) → ⊥
disk_there tells seen layout me name h has gone = here_missing (h.disks name) has.disk has.held gone

-- once the link was lent the clock is there
pub link_clock : {S D L N C : Type 0} (before mid : Option (Holdings S D L N C)) (port : ℕ) (thing : L) → Told before mid (λ h now. (h.links port ≡ here thing) × (now ≡ with_link h port lent))
    → Has before (HasLink port) → Has mid HasClock
link_clock {S} {D} {L} {N} {C} before mid port thing lends has =
    has_after {P = λ (h now : Holdings S D L N C). (h.links port ≡ here thing) × (now ≡ with_link h port lent)} {Q = HasLink port} {R = HasClock} before mid lends has
    (λ h now p q. λ missing. q.clock (subst IsMissing (ap (λ z. z.clock) p.1) missing))

-- The lines that are neither marks nor happenings nor counts: why an operation was not begun, that a line found nothing to do, and how
-- the proposal of a view, a sync job or a scrub ended.
use Rattle.std.specs.Prelude.{ℕ, Bool, true, false, if◌then◌else◌, List, codes, Option, Some, None}
use Rattle.std.specs.Option.{is_some}
use Rattle.std.specs.Str.{bytes_eq}
use Rattle.lines.specs.Grammar.{◌>>=◌}
use Rattle.transcript.specs.declared.claims.ClaimedStamp.{ClaimedStamp}
use Rattle.transcript.specs.declared.claims.ParsedCause.{ParsedCause}
use Rattle.transcript.specs.declared.claims.ParsedCause.TheVariants.{Later, Gone, Full, Moved}
use Rattle.transcript.specs.Tokens.{behind, cut, plain_number, is_plain, are_plain, number_before}

-- one reading of what was found, where something was, or else another
abbrev pub or_else : {A B : Type 0} → Option A → (A → B) → B → B
or_else None here there = there
or_else (Some found) here there = here found

-- a ballot, `ROUND.BRICK.BOOT`
unfoldable pub is_ballot : List ℕ → Bool
is_ballot text = or_else (number_before 46 text) (λ round. or_else (number_before 46 round.1) (λ brick. is_plain brick.1) false) false

-- a stamp, `VIEW.TIME.BRICK.BOOT`
unfoldable pub stamp_of : List ℕ → Option ClaimedStamp
stamp_of text = do
  view ← number_before 46 text
  time ← number_before 46 view.1
  brick ← number_before 46 time.1
  boot ← plain_number brick.1
  Some (record { view = view.0; time = time.0; brick = brick.0; boot = boot })

-- `B STAMP`, behind `later `
unfoldable pub later_of : List ℕ → Option ParsedCause
later_of text = do
  brick ← number_before 32 text
  stamp ← stamp_of brick.1
  Some (Later brick.0 stamp)

-- `B`, behind `gone `
unfoldable pub gone_of : List ℕ → Option ParsedCause
gone_of text = do
  brick ← plain_number text
  Some (Gone brick)

-- `B LIVE`, behind `full `
unfoldable pub full_of : List ℕ → Option ParsedCause
full_of text = do
  brick ← number_before 32 text
  live ← plain_number brick.1
  Some (Full brick.0 live)

-- `B VIEW`, behind `moved `
unfoldable pub moved_of : List ℕ → Option ParsedCause
moved_of text = do
  brick ← number_before 32 text
  view ← plain_number brick.1
  Some (Moved brick.0 view)

-- why an operation was aborted
unfoldable pub cause_of : List ℕ → Option ParsedCause
cause_of text =
    or_else (behind (codes "later ") text) later_of (or_else (behind (codes "gone ") text) gone_of
    (or_else (behind (codes "full ") text) full_of (or_else (behind (codes "moved ") text) moved_of None)))

-- why something is refused, behind `refused `
unfoldable pub is_refusal : List ℕ → Bool
is_refusal text =
    if bytes_eq text (codes "down") then true
    else if bytes_eq text (codes "nostripe") then true
    else if bytes_eq text (codes "noblock") then true
    else if bytes_eq text (codes "length") then true
    else if bytes_eq text (codes "busy") then true
    else if bytes_eq text (codes "spent") then true
    else bytes_eq text (codes "noquorum")

-- `E M ..`, behind `decided `: at least one member
unfoldable pub is_decided : List ℕ → Bool
is_decided text = or_else (number_before 32 text) (λ view. are_plain view.1) false

-- how a proposal ended, behind `view G `
unfoldable pub is_view_end : List ℕ → Bool
is_view_end text =
    or_else (behind (codes "decided ") text) is_decided (or_else (behind (codes "outbid ") text) is_ballot
    (or_else (behind (codes "notsynced ") text) is_plain (or_else (behind (codes "moved ") text) is_plain (bytes_eq text (codes "badmembers")))))

-- `S CAUSE`, behind `stopped `
unfoldable pub is_stopped : List ℕ → Bool
is_stopped text = or_else (number_before 32 text) (λ stripe. is_some (cause_of stripe.1)) false

-- how a sync job ended, behind `sync G `
unfoldable pub is_sync_end : List ℕ → Bool
is_sync_end text =
    or_else (behind (codes "synced ") text) is_plain (or_else (behind (codes "stopped ") text) is_stopped
    (or_else (behind (codes "spent ") text) is_plain false))

-- `STAMP M ..`, behind `repaired `: any number of members
unfoldable pub is_repaired : List ℕ → Bool
is_repaired text =
    or_else (cut 32 text) (λ parts. if is_some (stamp_of parts.0) then are_plain parts.1 else false) (is_some (stamp_of text))

-- how a scrub ended, behind `scrub G S `
unfoldable pub is_scrub_end : List ℕ → Bool
is_scrub_end text =
    or_else (behind (codes "repaired ") text) is_repaired
    (or_else (behind (codes "aborted ") text) (λ cause. is_some (cause_of cause)) (bytes_eq text (codes "clean")))

-- `G` and how something of a group ended
unfoldable pub is_view : List ℕ → Bool
is_view text = or_else (number_before 32 text) (λ group. is_view_end group.1) false

unfoldable pub is_sync : List ℕ → Bool
is_sync text = or_else (number_before 32 text) (λ group. is_sync_end group.1) false

-- `G S` and how a scrub ended
unfoldable pub is_scrub : List ℕ → Bool
is_scrub text = or_else (number_before 32 text) (λ group. or_else (number_before 32 group.1) (λ stripe. is_scrub_end stripe.1) false) false

-- a line of one of these words
unfoldable pub is_word : List ℕ → Bool
is_word text =
    or_else (behind (codes "refused ") text) is_refusal (or_else (behind (codes "view ") text) is_view
    (or_else (behind (codes "sync ") text) is_sync (or_else (behind (codes "scrub ") text) is_scrub (bytes_eq text (codes "idle")))))

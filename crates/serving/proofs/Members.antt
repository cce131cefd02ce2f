-- A member handles a request that stores what is a block, if anything: its log keeps blocks of the layout's length, and its reply has a spelling.
use Rattle.std.proofs.Common.{◌≡◌, ℕ, ◌≤◌, Bool, true, false, List, [], ◌∷◌, length, Option, Some, None, refl, arith}
use Rattle.std.specs.Prelude.{not, nat_lt, filter, if◌then◌else◌}
use Rattle.std.specs.Option.{IfSome}
use Rattle.std.proofs.lemmas.Bool.{cond_both, le-leb}
use Rattle.fab_base.specs.declared.stamps.Stamp.{Stamp}
use Rattle.fab_base.specs.Stamps.{stamp_below, stamp_same}
use Rattle.messages.specs.declared.replies.Reply.{Reply}
use Rattle.messages.specs.declared.replies.Reply.TheVariants as replies
use Rattle.messages.specs.declared.requests.Look.{Look}
use Rattle.messages.specs.declared.requests.Look.TheVariants.{Below, At}
use Rattle.messages.specs.declared.requests.Request.{Request}
use Rattle.messages.specs.declared.requests.Request.TheVariants as requests
use Rattle.messages.specs.declared.requests.Version.{Version}
use Rattle.protocol.specs.Replicas.{Replica, Reaction, handle, newest_of, told_version, under, looked_up, stays, unless_full, promised, stored, modified_on, modified_block, is_held, top_of, below, is_wanted, is_changed}
use Rattle.stripe_code.specs.Codes.{block_code}
use Rattle.stripe_code.proofs.Changes.{length-modified_block}
use Rattle.serving.specs.Spellings.{has_short_block, reply_fits}
use Rattle.brick_state.proofs.Listings.{all_filter}
use Rattle.serving.proofs.Everywhere.{all_append}
use Rattle.serving.proofs.Fitting.{IsShort, AreShort, ReactionFits}

-- what a request stores, if it stores a block, has the length of one
abbrev pub StoresBlock : ℕ → Request → Type 0
StoresBlock block (requests.Write t bytes) = length bytes ≡ block
StoresBlock block request = Unit {0}

module _ (block : ℕ) (few : block ≤ 4096) where
  -- the newest version of a log, and the one that is looked for, are short
  newest_short : (log : List Version) → AreShort block log → IfSome (newest_of log) (IsShort block)
  newest_short [] short = tt
  newest_short (version ∷ []) short = short.0
  newest_short (version ∷ (next ∷ log)) short = newest_short (next ∷ log) short.1

  looked_short : (look : Look) (log : List Version) → AreShort block log → IfSome (looked_up look log) (IsShort block)
  looked_short (Below bound) log short =
      newest_short (below bound log) (all_filter (IsShort block) (λ version. stamp_below version.stamp bound) log short)
  looked_short (At t) log short =
      newest_short (filter (λ version. stamp_same version.stamp t) log) (all_filter (IsShort block) (λ version. stamp_same version.stamp t) log short)

  -- a short version is told short
  told_short : (wanted : Bool) (found : Option Version) → IfSome found (IsShort block) → has_short_block (told_version wanted found) ≡ true
  told_short wanted None short = refl
  told_short true (Some version) short = le-leb (length version.block) 4096 (omega (arith, short, few))
  told_short false (Some version) short = refl

  short_spelled : (found : Option Version) → IfSome found (IsShort block) → has_short_block found ≡ true
  short_spelled None short = refl
  short_spelled (Some version) short = le-leb (length version.block) 4096 (omega (arith, short, few))

  -- the newest version of a log, below a bound if there is one, is told whole
  pub old_short : (bound : Option Stamp) (log : List Version) → AreShort block log → has_short_block (newest_of (under bound log)) ≡ true
  old_short None log short = short_spelled (newest_of log) (newest_short log short)
  old_short (Some bound) log short = short_spelled (newest_of (below bound log)) (looked_short (Below bound) log short)

  -- a part that stays, or is changed unless the store is full
  stays_fits : (replica : Replica) (reply : Reply) → AreShort block replica.log → reply_fits reply ≡ true → ReactionFits block (stays replica reply)
  stays_fits replica reply short spelled = record { log = short; reply = spelled }

  full_fits : (full : Option ℕ) (replica : Replica) (reaction : Reaction) → AreShort block replica.log → ReactionFits block reaction
      → ReactionFits block (unless_full full replica reaction)
  full_fits None replica reaction short fits = fits
  full_fits (Some live) replica reaction short fits =
      cond_both (nat_lt reaction.drops reaction.adds) (stays replica (replies.Full live)) reaction (ReactionFits block)
      (λ full. stays_fits replica (replies.Full live) short refl) (λ room. fits)

  -- a promise
  promised_fits : (replica : Replica) (t : Stamp) (reply : Reply) → AreShort block replica.log → reply_fits reply ≡ true
      → ReactionFits block (promised replica t reply)
  promised_fits replica t reply short spelled = record { log = short; reply = spelled }

  -- a version that is stored
  stored_fits : (replica : Replica) (t : Stamp) (bytes : List ℕ) → AreShort block replica.log → length bytes ≤ block
      → ReactionFits block (stored replica t bytes)
  stored_fits replica t bytes short fits =
      record { log = all_append (IsShort block) replica.log (record { stamp = t; block = bytes } ∷ []) short (fits, tt); reply = refl }

  -- unless something later is there
  unless_later : (replica : Replica) (t : Stamp) (reaction : Reaction) → AreShort block replica.log → ReactionFits block reaction
      → ReactionFits block (if stamp_below t (top_of replica) then stays replica (replies.Later (top_of replica)) else reaction)
  unless_later replica t reaction short fits =
      cond_both (stamp_below t (top_of replica)) (stays replica (replies.Later (top_of replica))) reaction (ReactionFits block)
      (λ later. stays_fits replica (replies.Later (top_of replica)) short refl) (λ first. fits)

  unless_held : (replica : Replica) (t : Stamp) (reaction : Reaction) → AreShort block replica.log → ReactionFits block reaction
      → ReactionFits block (if is_held t replica.log then stays replica replies.Stored else reaction)
  unless_held replica t reaction short fits =
      cond_both (is_held t replica.log) (stays replica replies.Stored) reaction (ReactionFits block)
      (λ held. stays_fits replica replies.Stored short refl) (λ new. fits)

  -- a seat's block, once a data block changed
  modified_short : (m j seat : ℕ) (delta old : List ℕ) → length old ≤ block → length (modified_block (block_code block) m j seat delta old) ≤ block
  modified_short m j seat delta old short =
      cond_both (is_changed m j seat) ((block_code block).modify m j seat delta old) old (λ bytes. length bytes ≤ block)
      (λ changed.
      let long : length ((block_code block).modify m j seat delta old) ≡ block = length-modified_block m block j seat delta old in omega (arith, long)) (λ same. short)

  modified_fits : (m : ℕ) (full : Option ℕ) (seat : ℕ) (replica : Replica) (t base : Stamp) (j : ℕ) (delta : List ℕ) (found : Option Version)
      → AreShort block replica.log → IfSome found (IsShort block)
      → ReactionFits block (modified_on (block_code block) m full seat replica t base j delta found)
  modified_fits m full seat replica t base j delta None short newest = stays_fits replica (replies.Behind None) short refl
  modified_fits m full seat replica t base j delta (Some version) short newest =
      cond_both (stamp_same version.stamp base)
      (unless_full full replica (stored replica t (modified_block (block_code block) m j seat delta version.block)))
      (stays replica (replies.Behind (Some version.stamp))) (ReactionFits block)
      (λ same. full_fits full replica (stored replica t (modified_block (block_code block) m j seat delta version.block)) short
      (stored_fits replica t (modified_block (block_code block) m j seat delta version.block) short (modified_short m j seat delta version.block newest)))
      (λ other. stays_fits replica (replies.Behind (Some version.stamp)) short refl)

  -- what the member at a seat does
  pub handled_fits : (m : ℕ) (full : Option ℕ) (seat : ℕ) (replica : Replica) (request : Request) → AreShort block replica.log
      → StoresBlock block request → ReactionFits block (handle (block_code block) m full seat replica request)
  unfolding handle
  handled_fits m full seat replica (requests.Read want) short fits =
      stays_fits replica (replies.Found replica.order (told_version (is_wanted want seat) (newest_of replica.log))) short
      (told_short (is_wanted want seat) (newest_of replica.log) (newest_short replica.log short))
  handled_fits m full seat replica (requests.Order t) short fits =
      unless_later replica t (unless_full full replica (promised replica t replies.Ordered)) short
      (full_fits full replica (promised replica t replies.Ordered) short (promised_fits replica t replies.Ordered short refl))
  handled_fits m full seat replica (requests.OrderRead t look want) short fits =
      let reply : Reply = replies.OrderedRead (told_version (is_wanted want seat) (looked_up look replica.log)) in
      unless_later replica t (unless_full full replica (promised replica t reply)) short
      (full_fits full replica (promised replica t reply) short
      (promised_fits replica t reply short (told_short (is_wanted want seat) (looked_up look replica.log) (looked_short look replica.log short))))
  handled_fits m full seat replica (requests.Write t bytes) short fits =
      unless_held replica t (if stamp_below t (top_of replica) then stays replica (replies.Later (top_of replica)) else unless_full full replica (stored replica t bytes)) short
      (unless_later replica t (unless_full full replica (stored replica t bytes)) short
      (full_fits full replica (stored replica t bytes) short (stored_fits replica t bytes short (omega (arith, fits)))))
  handled_fits m full seat replica (requests.Modify t base j delta) short fits =
      let on_base : Reaction = modified_on (block_code block) m full seat replica t base j delta (newest_of replica.log) in
      unless_held replica t (if stamp_below t (top_of replica) then stays replica (replies.Later (top_of replica)) else on_base) short
      (unless_later replica t on_base short
      (modified_fits m full seat replica t base j delta (newest_of replica.log) short (newest_short replica.log short)))
  handled_fits m full seat replica (requests.Collect t) short fits =
      cond_both (is_held t replica.log) _ _ (ReactionFits block)
      (λ held. record { log = all_filter (IsShort block) (λ version. not (stamp_below version.stamp t)) replica.log short; reply = tt })
      (λ none. record { log = short; reply = tt })
  handled_fits m full seat replica request short fits = record { log = short; reply = tt }

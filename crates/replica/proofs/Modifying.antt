-- A version that is made of the newest one here.
use Rattle.std.proofs.Common.{◌≡◌, ℕ, Bool, true, false, cond, Option, Some, None, List, [], map, refl, sym, ap, ◌∙◌}
use Rattle.std.specs.Option.{option_map, unwrap_or}
use Rattle.fab_base.specs.declared.stamps.Stamp.{Stamp}
use Rattle.fab_base.specs.Stamps.{stamp_same}
use Rattle.messages.specs.declared.requests.Version.{Version}
use Rattle.messages.specs.declared.replies.Reply.{Reply}
use Rattle.messages.specs.declared.replies.Reply.TheVariants.{Behind}
use Rattle.version_log.specs.Versions.{Version as Kept, newest}
use Rattle.protocol.specs.Settings.{Code}
use Rattle.protocol.specs.Replicas.{Replica, Reaction, newest_of, modified, modified_on, modified_block, stays, stored, unless_full}
use Rattle.stripe_code.specs.Codes.{block_code}
use Rattle.replica.specs.Members.{Member}
use Rattle.replica.specs.Parts.{as_version}
use Rattle.replica.specs.Plans.{settled_reply, block_stored}
use Rattle.replica.proofs.Logs.{newest_seen}
use Rattle.replica.proofs.Deciding.{unless_settled, modified_is}

-- the newest version that a look-up shows
pub newest_shown : (log : List Kept) (found : Option Kept) → found ≡ newest log → newest_of (map as_version log) ≡ option_map as_version found
newest_shown log found is = newest_seen log ∙ ap (option_map as_version) (sym is)

-- the block that is stored over it: a new one, or its own
pub stored_over : (log : List Version) (top : Version) (made : Option (List ℕ)) → newest_of log ≡ Some top → block_stored log made ≡ unwrap_or made top.block
stored_over log top (Some bytes) at = refl
stored_over log top None at = ap (λ (found : Option Version). unwrap_or (option_map (λ (v : Version). v.block) found) []) at

module _ (member : Member) (full : Option ℕ) (part : Replica) (t base : Stamp) (j : ℕ) (delta : List ℕ) where
  abbrev code : Code
  code = block_code member.block

  -- what the member makes of the request, and of one that is not settled
  abbrev made_of : Reaction
  made_of = modified code member.m full member.seat part t base j delta

  abbrev made_on : Option Version → Reaction
  made_on found = modified_on code member.m full member.seat part t base j delta found

  abbrev block_over : Version → List ℕ
  block_over top = modified_block code member.m j member.seat delta top.block

  is_made : made_of ≡ unless_settled part (settled_reply part t) (made_on (newest_of part.log))
  is_made = modified_is code member.m full member.seat part t base j delta

  -- one that is settled is told so
  pub modified_settled : (reply : Reply) → Some reply ≡ settled_reply part t → stays part reply ≡ made_of
  modified_settled reply is = ap (λ (told : Option Reply). unless_settled part told (made_on (newest_of part.log))) is ∙ sym is_made

  module _ (open_still : None ≡ settled_reply part t) where
    -- one that is not goes by the newest version
    by_newest : (found : Option Version) → newest_of part.log ≡ found → made_of ≡ made_on found
    by_newest found at = is_made ∙ (λ k. unless_settled part (sym open_still k) (made_on (at k)))

    -- there is none
    pub modified_none : newest_of part.log ≡ None → stays part (Behind None) ≡ made_of
    modified_none at = sym (by_newest None at)

    module _ (top : Version) (at : newest_of part.log ≡ Some top) where
      -- it is the base, or another
      by_base : (same : Bool) → stamp_same top.stamp base ≡ same
          → made_of ≡ cond same (unless_full full part (stored part t (block_over top))) (stays part (Behind (Some top.stamp)))
      by_base same is =
          by_newest (Some top) at
          ∙ ap (λ (b : Bool). cond b (unless_full full part (stored part t (block_over top))) (stays part (Behind (Some top.stamp)))) is

      pub modified_behind : stamp_same top.stamp base ≡ false → stays part (Behind (Some top.stamp)) ≡ made_of
      modified_behind other = sym (by_base false other)

      pub modified_made : stamp_same top.stamp base ≡ true → (made : Option (List ℕ)) → unwrap_or made top.block ≡ block_over top
          → unless_full full part (stored part t (block_stored part.log made)) ≡ made_of
      modified_made same made is =
          ap (λ (bytes : List ℕ). unless_full full part (stored part t bytes)) (stored_over part.log top made at ∙ is) ∙ sym (by_base true same)

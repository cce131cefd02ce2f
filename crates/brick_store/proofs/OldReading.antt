-- A list of the old format that is folded as it is read.
use Rattle.std.proofs.Common.{◌≡◌, ℕ, Bool, true, false, if◌then◌else◌, Option, Some, None, List, [], ◌∷◌, ◌++◌, refl, sym, ap, subst, ◌∙◌, append_assoc}
use Rattle.frame_store.specs.declared.frames.Frame.{Frame}
use Rattle.version_log.specs.Versions.{Version}
use Rattle.brick_state.specs.Entries.{Entry}
use Rattle.brick_state.specs.States.{StateOf, empty}
use Rattle.brick_state.specs.Folds.{Limits}
use Rattle.brick_state.proofs.Keeping.{empty_kept}
use Rattle.brick_store.specs.BlockTables.{SlotBlocks}
use Rattle.brick_store.specs.Blocks.{cached, resolved}
use Rattle.brick_store.specs.Images.{limits_for}
use Rattle.brick_store.specs.OldLists.{old_taken, old_folded, old_onward, old_state_in, OldLeads}
use Rattle.brick_store.specs.Openings.{IsOldFold, Makes, OldAnswers, TakesOld, memory_limits}
use Rattle.brick_store.proofs.Members.{AllHaveMembers, empty_members}
use Rattle.brick_store.proofs.Reading.{no_fold, fold_past}

-- ---- frames one after the other

-- what they lead to is what is made of them, and the others go on from there
old_leads_then : (size records : ℕ) (xs rest : List Frame) (a b : StateOf Version) → OldLeads size records xs a b
    → old_folded size records (xs ++ rest) a ≡ old_folded size records rest b
unfolding OldLeads old_folded
old_leads_then size records [] rest a b leads = ap (old_folded size records rest) leads
old_leads_then size records (x ∷ xs) rest a b leads =
    ap (λ (o : Option (StateOf Version)). old_onward o a (old_folded size records (xs ++ rest))) leads.1
    ∙ old_leads_then size records xs rest leads.0 b leads.2

old_leads_more : (size records : ℕ) (xs : List Frame) (frame : Frame) (a b c : StateOf Version) → OldLeads size records xs a b
    → old_taken size records frame b ≡ Some c → OldLeads size records (xs ++ frame ∷ []) a c
unfolding OldLeads
old_leads_more size records [] frame a b c leads is = (c, ap (old_taken size records frame) leads ∙ is, refl)
old_leads_more size records (x ∷ xs) frame a b c leads is = (leads.0, leads.1, old_leads_more size records xs frame leads.0 b c leads.2 is)

-- a frame that is taken, and one that ends the list
old_one : (size records : ℕ) (frame : Frame) (rest : List Frame) (a b : StateOf Version) → old_taken size records frame a ≡ Some b
    → old_folded size records (frame ∷ rest) a ≡ old_folded size records rest b
unfolding old_folded
old_one size records frame rest a b is = ap (λ (o : Option (StateOf Version)). old_onward o a (old_folded size records rest)) is

old_none : (size records : ℕ) (frame : Frame) (rest : List Frame) (a : StateOf Version) → old_taken size records frame a ≡ None
    → old_folded size records (frame ∷ rest) a ≡ a
unfolding old_folded
old_none size records frame rest a is = ap (λ (o : Option (StateOf Version)). old_onward o a (old_folded size records rest)) is

old_nil : (size records : ℕ) (a : StateOf Version) → old_folded size records [] a ≡ a
unfolding old_folded
old_nil size records a = refl

-- ---- a list that is folded as it is read

-- no frame makes a brick that keeps nothing
no_old_fold : (size records : ℕ) (blocks : SlotBlocks) → IsOldFold size records [] empty blocks true
unfolding resolved old_folded OldLeads
no_old_fold size records blocks = record {
  found = refl;
  leads = λ is. refl;
  ended = λ is. absurd cc;
  kept = empty_kept (memory_limits records);
  held = tt;
  members = empty_members;
}

-- a list was begun
pub begun : (old : Bool) (size records : ℕ) (limits : Limits) (st : StateOf Entry) (blocks : SlotBlocks)
    → limits ≡ (if old then memory_limits records else limits_for records) → st ≡ empty → Makes size records old [] limits st blocks true
begun false size records limits st blocks is none =
    (is, no_fold (limits_for records) st none (subst (λ (s : StateOf Entry). AllHaveMembers s.groups) (sym none) empty_members))
begun true size records limits st blocks is none =
    (is, subst (λ (s : StateOf Entry). IsOldFold size records [] s blocks true) (sym none) (no_old_fold size records blocks))

-- what comes behind a list that ended early changes nothing
pub makes_past : (old : Bool) (size records : ℕ) (frames : List Frame) (frame : Frame) (limits : Limits) (st : StateOf Entry) (blocks : SlotBlocks)
    (whole : Bool) → whole ≡ false → Makes size records old frames limits st blocks whole
    → Makes size records old (frames ++ frame ∷ []) limits st blocks whole
makes_past false size records frames frame limits st blocks whole is so_far =
    (so_far.0, fold_past (limits_for records) frames frame st whole is so_far.1)
makes_past true size records frames frame limits st blocks whole is so_far =
    let fold = so_far.1 in (
      so_far.0,
      record {
        found = fold.ended is (frame ∷ []);
        leads = λ all. absurd (differ (sym is ∙ all));
        ended = λ again rest. ap (old_state_in size records) (append_assoc frames (frame ∷ []) rest) ∙ fold.ended is (frame ∷ rest);
        kept = fold.kept;
        held = fold.held;
        members = fold.members;
      },
    )
  where
    differ : false ≡ true → ⊥
    differ e = cc

-- one frame more, which was taken or ended the list
pub old_fold_more : (size records : ℕ) (frames : List Frame) (frame : Frame) (st next : StateOf Entry) (blocks blocks_next : SlotBlocks) (now : Bool)
    → IsOldFold size records frames st blocks true → TakesOld size records frame st next blocks blocks_next now
    → IsOldFold size records (frames ++ frame ∷ []) next blocks_next now
old_fold_more size records frames frame st next blocks blocks_next now so_far taken =
    by (old_taken size records frame (resolved (cached size blocks) st)) refl taken.answers
  where
    before : StateOf Version
    before = resolved (cached size blocks) st

    after : StateOf Version
    after = resolved (cached size blocks_next) next

    leads : OldLeads size records frames empty before
    leads = so_far.leads refl

    differ : {A : Type 0} → now ≡ false → now ≡ true → A
    differ stopped all = absurd (false_true (sym stopped ∙ all))
      where
        false_true : false ≡ true → ⊥
        false_true e = cc

    by : (o : Option (StateOf Version)) → old_taken size records frame before ≡ o → OldAnswers before after o now
        → IsOldFold size records (frames ++ frame ∷ []) next blocks_next now
    by None at is = record {
      found = old_leads_then size records frames (frame ∷ []) empty before leads ∙ old_none size records frame [] before at ∙ sym is.1;
      leads = λ all. differ is.0 all;
      ended = λ stopped rest. ap (old_state_in size records) (append_assoc frames (frame ∷ []) rest)
          ∙ old_leads_then size records frames (frame ∷ rest) empty before leads ∙ old_none size records frame rest before at ∙ sym is.1;
      kept = taken.kept;
      held = taken.held;
      members = taken.members so_far.members;
    }
    by (Some v) at is =
        let some : old_taken size records frame before ≡ Some after = at ∙ ap (λ (x : StateOf Version). Some x) (sym is.1) in
        record {
          found = old_leads_then size records frames (frame ∷ []) empty before leads ∙ old_one size records frame [] before after some
              ∙ old_nil size records after;
          leads = λ all. old_leads_more size records frames frame empty before after leads some;
          ended = λ stopped rest. differ stopped is.0;
          kept = taken.kept;
          held = taken.held;
          members = taken.members so_far.members;
        }

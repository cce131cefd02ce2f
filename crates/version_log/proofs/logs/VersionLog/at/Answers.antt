-- The version of the stamp is the first that is not below it, or there is none.
use Rattle.std.proofs.Common.{Bool, cond, Some, None, List, ap, sym, ◌∙◌, drop}
use Rattle.std.specs.List.{slice_get}
use Rattle.std.specs.Option.{option_copied, option_map}
use Rattle.version_log.specs.declared.versions.Version.{Version}
use Rattle.version_log.specs.Versions.{block_of}
use Rattle.version_log.proofs.RisingLogs.{block_at_point}
use Rattle.version_log.proofs.logs.VersionLog.at.Goals as goal

pub returns-in_err-version : goal.returns-in_err-version
returns-in_err-version g c =
    let log = c.args.self.now.versions.items in
    let n = c.count_below.result in
    ap option_copied c.from_residual.ensures
    ∙ block_at_point c.args.stamp log n None c.count_below.ensures.rising c.count_below.ensures.point
    (ap option_copied (sym c.in_err-version.was) ∙ c.first.ensures.value
    ∙ ap (λ (vs : List (Version g.row.B.Denot)). slice_get vs 0) (c.split_at.ensures.back ∙ ap (drop n) c.deref.ensures.value))

pub returns-then-is_same : goal.returns-then-is_same
returns-then-is_same g c =
    let log = c.args.self.now.versions.items in
    let n = c.count_below.result in
    let v = c.in_ok-version.version.now in
    ap (λ (b : Bool). option_map block_of (cond b (Some v) None)) (sym c.if-is_same.true ∙ c.is_same.ensures)
    ∙ block_at_point c.args.stamp log n (Some v) c.count_below.ensures.rising c.count_below.ensures.point
    (ap option_copied (sym c.in_ok-version.was) ∙ c.first.ensures.value
    ∙ ap (λ (vs : List (Version g.row.B.Denot)). slice_get vs 0) (c.split_at.ensures.back ∙ ap (drop n) c.deref.ensures.value))

pub returns-else-is_same : goal.returns-else-is_same
returns-else-is_same g c =
    let log = c.args.self.now.versions.items in
    let n = c.count_below.result in
    let v = c.in_ok-version.version.now in
    ap (λ (b : Bool). option_map block_of (cond b (Some v) None)) (sym c.if-is_same.false ∙ c.is_same.ensures)
    ∙ block_at_point c.args.stamp log n (Some v) c.count_below.ensures.rising c.count_below.ensures.point
    (ap option_copied (sym c.in_ok-version.was) ∙ c.first.ensures.value
    ∙ ap (λ (vs : List (Version g.row.B.Denot)). slice_get vs 0) (c.split_at.ensures.back ∙ ap (drop n) c.deref.ensures.value))

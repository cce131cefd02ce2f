-- Those below the bound are the front that was cut off.
use Rattle.std.proofs.Common.{List, ap, sym, ◌∙◌, take}
use Rattle.std.specs.Option.{option_copied, option_map}
use Rattle.version_log.specs.declared.versions.Version.{Version}
use Rattle.version_log.specs.Versions.{is_below, newest, version}
use Rattle.version_log.proofs.RisingLogs.{filter_at_point}
use Rattle.version_log.proofs.logs.VersionLog.below.Goals as goal

pub returns-in_err-version : goal.returns-in_err-version
returns-in_err-version g c =
    let log = c.args.self.now.versions.items in
    let n = c.count_below.result in
    ap (option_map (λ found. version found.0 found.1.now)) c.from_residual.ensures ∙ ap option_copied (sym c.in_err-version.was) ∙ c.last.ensures.value
    ∙ ap (λ (vs : List (Version g.row.B.Denot)). newest vs) (c.split_at.ensures.front ∙ ap (take n) c.deref.ensures.value
    ∙ sym (filter_at_point (is_below c.args.bound) log n c.count_below.ensures.within c.count_below.ensures.point))

pub returns : goal.returns
returns g c =
    let log = c.args.self.now.versions.items in
    let n = c.count_below.result in
    ap option_copied (sym c.in_ok-version.was) ∙ c.last.ensures.value
    ∙ ap (λ (vs : List (Version g.row.B.Denot)). newest vs) (c.split_at.ensures.front ∙ ap (take n) c.deref.ensures.value
    ∙ sym (filter_at_point (is_below c.args.bound) log n c.count_below.ensures.within c.count_below.ensures.point))

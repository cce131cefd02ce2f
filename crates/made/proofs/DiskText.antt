-- The text of the disk's layout, as a TOML document.
use Rattle.std.proofs.Common.{◌≡◌, true, codes, pos, Some, Ok, refl, ap, ◌∙◌}
use Rattle.std.specs.Str.{is_utf8, chars}
use lib.Utf8.{encode}
use Rattle.std.proofs.lemmas.Str.{IsUtf8-from_is_utf8}
use Rattle.quorum.specs.Memberships.{is_membership}
use Rattle.toml.specs.Data.{Members, no_members, member, no_items, item, integer, array, table}
use Rattle.toml.specs.Parse.{parse_document}
use Rattle.toml.proofs.OnLiterals.{toml_on_literals}
use Rattle.layout.specs.Texts.{layout_or, layout_of}
use Rattle.layout.specs.Checks.{layout_in}
use Rattle.layout.proofs.Documents.{document_of-read}
use Rattle.made.specs.declared.disks.TheConstants.{DISK}
use Rattle.made.specs.Disks.{made_layout}

-- its table
disk-table : Members
disk-table =
    member (codes "block") (integer (pos 4)) (member (codes "bricks") (integer (pos 6))
    (member (codes "group") (array (item (table
    (member (codes "m") (integer (pos 2)) (member (codes "members")
    (array (item (integer (pos 0)) (item (integer (pos 1)) (item (integer (pos 2)) (item (integer (pos 3)) no_items)))))
    (member (codes "stripes") (integer (pos 8)) no_members)))) no_items))
    (member (codes "records") (integer (pos 100000)) no_members)))

disk-utf8 : is_utf8 DISK.now ≡ true
unfolding is_utf8 chars encode
disk-utf8 = refl

disk-document : parse_document DISK.now ≡ Some disk-table
unfolding toml_on_literals disk-table
disk-document = refl

disk-checks : layout_in disk-table ≡ Ok made_layout
unfolding disk-table is_membership
disk-checks = refl

-- what it says
pub disk-read : layout_of DISK.now ≡ Ok made_layout
disk-read = ap layout_or (document_of-read DISK.now disk-table (IsUtf8-from_is_utf8 DISK.now disk-utf8) disk-document) ∙ disk-checks

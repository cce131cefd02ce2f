-- The bytes of a session. Numbers stand from the high byte on.
use Rattle.std.specs.Prelude.{ℕ, ◌+◌, nat_eq, nat_le, Bool, ◌&&◌, if◌then◌else◌, List, [], ◌++◌, length, take, drop, replicate, codes}
use Rattle.byteorder.specs.Endian.{big_number, big_bytes}
use Rattle.nbd_front.specs.declared.parts.NbdOption.{NbdOption}
use Rattle.nbd_front.specs.declared.parts.NbdOption.TheVariants as choice
use Rattle.nbd_front.specs.declared.parts.NbdKind.{NbdKind}
use Rattle.nbd_front.specs.declared.parts.NbdKind.TheVariants as kind
use Rattle.nbd_front.specs.declared.parts.NbdRequest.{NbdRequest}
use Rattle.nbd_front.specs.declared.steps.ReplyError.{ReplyError}
use Rattle.nbd_front.specs.declared.steps.ReplyError.TheVariants.{Success, Io, Invalid, NoSpace}

-- the number in so many bytes, from a place on
unfoldable pub field : (at size : ℕ) → List ℕ → ℕ
field at size bytes = big_number size (drop at bytes)

-- ---- what the client sends: at which place each field stands, and how many bytes it has

-- The client's flags: four bytes. The flag 2 asks for no zero bytes after a volume's size.
abbrev pub client_flags : List ℕ → ℕ
client_flags bytes = field 0 4 bytes

-- An option: `IHAVEOPT` in eight bytes, its number in four, the length of its data in four, and the data.
abbrev pub option_magic : List ℕ → ℕ
option_magic bytes = field 0 8 bytes

abbrev pub option_number : List ℕ → ℕ
option_number bytes = field 8 4 bytes

abbrev pub option_length : List ℕ → ℕ
option_length bytes = field 12 4 bytes

abbrev pub option_data : List ℕ → List ℕ
option_data bytes = take (option_length bytes) (drop 16 bytes)

-- what the number of an option asks for
abbrev pub choice_of : ℕ → NbdOption
choice_of number =
    if nat_eq number 1 then choice.ExportName else
    if nat_eq number 2 then choice.Abort else choice.Other

-- an option begins rightly, and has at most 4,096 bytes of data
abbrev pub is_option : List ℕ → Bool
is_option bytes = nat_eq (option_magic bytes) 0x4948_4156_454f_5054 && nat_le (option_length bytes) 4096

-- how many bytes an option has, by those of it that came
abbrev pub option_size : List ℕ → ℕ
option_size bytes = if nat_le 16 (length bytes) && is_option bytes then 16 + option_length bytes else 16

-- A request: 25609513 in four bytes, its flags in two, its kind in two, its cookie in eight, the offset in eight, the length in four,
-- and for a WRITE its bytes.
abbrev pub request_magic : List ℕ → ℕ
request_magic bytes = field 0 4 bytes

-- what the number of a kind asks for
abbrev pub kind_of : ℕ → NbdKind
kind_of number =
    if nat_eq number 0 then kind.Read else
    if nat_eq number 1 then kind.Write else
    if nat_eq number 2 then kind.Disc else
    if nat_eq number 3 then kind.Flush else kind.Other

abbrev pub request_of : List ℕ → NbdRequest
request_of bytes =
    record {
      flags = field 4 2 bytes;
      kind = kind_of (field 6 2 bytes);
      cookie = field 8 8 bytes;
      offset = field 16 8 bytes;
      length = field 24 4 bytes;
    }

-- how many bytes come behind a request's head: those of a WRITE
abbrev pub bytes_behind : NbdKind → ℕ → ℕ
bytes_behind kind.Write length = length
bytes_behind asked length = 0

-- a request begins rightly, and is no WRITE of more than 33,554,432 bytes
abbrev pub is_request : List ℕ → Bool
is_request bytes =
    nat_eq (request_magic bytes) 0x2560_9513 && nat_le (bytes_behind (request_of bytes).kind (request_of bytes).length) 33_554_432

-- how many bytes a request has, by those of it that came
abbrev pub request_size : List ℕ → ℕ
request_size bytes =
    if nat_le 28 (length bytes) && is_request bytes then 28 + bytes_behind (request_of bytes).kind (request_of bytes).length else 28

-- ---- what the server sends

-- `NBDMAGIC`, `IHAVEOPT`, and the flags 1 (fixed newstyle) and 2 (no zero bytes if the client asks so)
unfoldable pub greeting : List ℕ
greeting = codes "NBDMAGICIHAVEOPT" ++ big_bytes 2 3

-- the reply to an option that is no volume's name: a magic number, the option, the reply's kind, and no data
unfoldable pub option_reply : (option kind : ℕ) → List ℕ
option_reply option kind = big_bytes 8 0x0003_e889_0455_65a9 ++ big_bytes 4 option ++ big_bytes 4 kind ++ big_bytes 4 0

-- the kinds of such replies: it was taken, or is not served
abbrev pub acknowledged : ℕ
acknowledged = 1

abbrev pub unsupported : ℕ
unsupported = 0x8000_0001

-- the reply to a volume's name: its size, the flags 1 (there are flags) and 4 (FLUSH is served), and 124 zero bytes for a client that
-- is not brief
unfoldable pub export_reply : ℕ → Bool → List ℕ
export_reply size brief = big_bytes 8 size ++ big_bytes 2 5 ++ (if brief then [] else replicate 124 0)

-- the number of an error
abbrev pub error_number : ReplyError → ℕ
error_number Success = 0
error_number Io = 5
error_number Invalid = 22
error_number NoSpace = 28

-- the reply to a request, before the bytes of a READ: a magic number, the error, and the request's cookie
unfoldable pub request_reply : ReplyError → ℕ → List ℕ
request_reply error cookie = big_bytes 4 0x6744_6698 ++ big_bytes 4 (error_number error) ++ big_bytes 8 cookie

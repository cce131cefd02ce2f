-- Worked sessions, whole and byte by byte: a disk of one volume `v` of four blocks of one byte, whose blocks are zero.
use Rattle.std.proofs.Common.{◌≡◌, ℕ, zero, suc, List, [], ◌∷◌, ◌++◌, refl}
use Rattle.std.specs.Prelude.{codes}
use Rattle.byteorder.specs.Endian.{big_bytes}
use Rattle.fab_base.specs.Layouts.{Layout}
use Rattle.front.specs.declared.steps.RangeAnswer.{RangeAnswer}
use Rattle.front.specs.declared.steps.RangeAnswer.TheVariants.{Done, Beyond}
use Rattle.nbd_front.specs.declared.steps.End.TheVariants.{Eof}
use Rattle.nbd_front.specs.Wire.{field, greeting, option_reply, export_reply, request_reply}
use Rattle.nbd_front.specs.Sessions.{Session, begun, Move, Waits, Says, Asks, Ends, move_of, fed, finished, answered, asked_of, Reading}
use Rattle.nbd_front.specs.Talks.{Saying, Sent, Answered, Closed}

abbrev example : Layout
example =
    record {
      block = 1;
      bricks = 3;
      records = 100;
      port = 17000;
      store = 2;
      spares = [];
      groups = record { members = []; m = 1; stripes = 4 } ∷ [];
      volumes =
          record {
            name = codes "v";
            segments = record { group = record { 0 = 0 }; first = record { 0 = 0 }; stripes = 4 } ∷ [];
          }
          ∷ [];
    }

-- what comes of a move, if what comes after it is told so
abbrev said_on : (List ℕ → Session → List RangeAnswer → List Saying) → Session → Move → List ℕ → List RangeAnswer → List Saying
said_on later session Waits [] answers = later [] (finished session) answers
said_on later session Waits (byte ∷ bytes) answers = later bytes (fed session (byte ∷ [])) answers
said_on later session (Says sent next) bytes answers = Sent sent ∷ later bytes next answers
said_on later session Asks bytes [] = []
said_on later session Asks bytes (answer ∷ answers) = Answered (asked_of session) answer ∷ later bytes (answered session answer) answers
said_on later session (Ends end) bytes answers = Closed end ∷ []

-- What comes of a session in so many moves that takes these bytes one by one, as it needs them, and is answered so. The bytes end then.
unfoldable said_along : ℕ → List ℕ → Session → List RangeAnswer → List Saying
said_along zero bytes session answers = []
said_along (suc more) bytes session answers = said_on (said_along more) session (move_of session) bytes answers

-- flags 3, option 7, the name `v`, and a READ of two bytes
abbrev first_client : List ℕ
first_client =
    big_bytes 4 3 ++ codes "IHAVEOPT" ++ big_bytes 4 7 ++ big_bytes 4 0 ++ codes "IHAVEOPT" ++ big_bytes 4 1 ++ big_bytes 4 1 ++ codes "v"
    ++ 0x25 ∷ 0x60 ∷ 0x95 ∷ 0x13 ∷ 0 ∷ 0 ∷ 0 ∷ 0 ∷ 0 ∷ 0 ∷ 0 ∷ 0 ∷ 0 ∷ 0 ∷ 0 ∷ 7 ∷ 0 ∷ 0 ∷ 0 ∷ 0 ∷ 0 ∷ 0 ∷ 0 ∷ 0 ∷ 0 ∷ 0 ∷ 0 ∷ 2 ∷ []

-- then a READ of the byte past the end
abbrev second_client : List ℕ
second_client =
    first_client
    ++ 0x25 ∷ 0x60 ∷ 0x95 ∷ 0x13 ∷ 0 ∷ 0 ∷ 0 ∷ 0 ∷ 0 ∷ 0 ∷ 0 ∷ 0 ∷ 0 ∷ 0 ∷ 0 ∷ 8 ∷ 0 ∷ 0 ∷ 0 ∷ 0 ∷ 0 ∷ 0 ∷ 0 ∷ 4 ∷ 0 ∷ 0 ∷ 0 ∷ 1 ∷ []

-- what comes of both, before the end
abbrev first_said : List Saying → List Saying
first_said more =
    Sent (codes "NBDMAGICIHAVEOPT" ++ 0 ∷ 3 ∷ [])
    ∷ Sent (0 ∷ 3 ∷ 0xe8 ∷ 0x89 ∷ 4 ∷ 0x55 ∷ 0x65 ∷ 0xa9 ∷ 0 ∷ 0 ∷ 0 ∷ 7 ∷ 0x80 ∷ 0 ∷ 0 ∷ 1 ∷ 0 ∷ 0 ∷ 0 ∷ 0 ∷ [])
    ∷ Sent (0 ∷ 0 ∷ 0 ∷ 0 ∷ 0 ∷ 0 ∷ 0 ∷ 4 ∷ 0 ∷ 5 ∷ []) ∷ Answered (Reading (codes "v") 0 2) (Done (0 ∷ 0 ∷ []))
    ∷ Sent (0x67 ∷ 0x44 ∷ 0x66 ∷ 0x98 ∷ 0 ∷ 0 ∷ 0 ∷ 0 ∷ 0 ∷ 0 ∷ 0 ∷ 0 ∷ 0 ∷ 0 ∷ 0 ∷ 7 ∷ []) ∷ Sent (0 ∷ 0 ∷ []) ∷ more

abbrev second_said : List Saying
second_said =
    first_said
    (Answered (Reading (codes "v") 4 1) Beyond
    ∷ Sent (0x67 ∷ 0x44 ∷ 0x66 ∷ 0x98 ∷ 0 ∷ 0 ∷ 0 ∷ 22 ∷ 0 ∷ 0 ∷ 0 ∷ 0 ∷ 0 ∷ 0 ∷ 0 ∷ 8 ∷ []) ∷ Closed Eof ∷ [])

first_whole : said_along 20 [] (fed (begun example) first_client) (Done (0 ∷ 0 ∷ []) ∷ []) ≡ first_said (Closed Eof ∷ [])
unfolding said_along field greeting option_reply export_reply request_reply
first_whole = refl

first_by_bytes : said_along 200 first_client (begun example) (Done (0 ∷ 0 ∷ []) ∷ []) ≡ first_said (Closed Eof ∷ [])
unfolding said_along field greeting option_reply export_reply request_reply
first_by_bytes = refl

second_whole : said_along 20 [] (fed (begun example) second_client) (Done (0 ∷ 0 ∷ []) ∷ Beyond ∷ []) ≡ second_said
unfolding said_along field greeting option_reply export_reply request_reply
second_whole = refl

second_by_bytes : said_along 200 second_client (begun example) (Done (0 ∷ 0 ∷ []) ∷ Beyond ∷ []) ≡ second_said
unfolding said_along field greeting option_reply export_reply request_reply
second_by_bytes = refl

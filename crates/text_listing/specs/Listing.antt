-- The listing of a source, whole. Definitions; rests on the front end, the image, its lines and the report.
-- Assumes nothing.
use Rattle.std.specs.Prelude.{List, ℕ}
use Rattle.x_verdict.specs.Front.{Outcome, refused, accepted}
use Rattle.translate_rules.specs.ImageCode.{image}
use Rattle.text_disassembly.specs.ImageLines.{text_from}
use Rattle.text_report.specs.Report.{with_room, report_of}

-- of an accepted source the lines of its image, from address 0 on; of a refused one the report
abbrev pub listed : List ℕ → Outcome → List ℕ
listed source (accepted n p) = text_from 0 (image p)
listed source (refused n at) = report_of source

unfoldable pub listing_of : List ℕ → List ℕ
listing_of source = listed source (with_room source)

-- no listing has more bytes: 58 a line, a line a halfword of the 49,408 bytes that an image may have
abbrev pub listing_limit : ℕ
listing_limit = 1432832

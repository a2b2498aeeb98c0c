-- How a mode with connections ends: its status and its note.
use Rattle.std.specs.Prelude.{ℕ, List, [], codes}
use Rattle.ty_top.specs.Endings.{fault_status, feed_status}
use Rattle.ty_top.specs.Notes.{cut_note, fault_note, feed_note, memory_note, read_note, write_note}
use Rattle.ty_top.specs.declared.link_ending.ServeEnd.{ServeEnd}
use Rattle.ty_top.specs.declared.link_ending.ServeEnd.TheVariants as serve
use Rattle.ty_top.specs.declared.link_ending.DialEnd.{DialEnd}
use Rattle.ty_top.specs.declared.link_ending.DialEnd.TheVariants as dial
use Rattle.ty_top.specs.declared.link_ending.LinkEnding.{LinkEnding}
use Rattle.ty_top.specs.declared.link_ending.LinkEnding.TheVariants.{Serve, Dial}

abbrev pub serve_status : ServeEnd → ℕ
serve_status serve.Done = 0
serve_status (serve.Fault f) = feed_status f
serve_status serve.Read = 3
serve_status serve.Door = 7
serve_status serve.Memory = 5

abbrev pub dial_status : DialEnd → ℕ
dial_status dial.Done = 0
dial_status (dial.Fault f) = fault_status f
dial_status (dial.Cut left) = 9
dial_status dial.Link = 10
dial_status dial.Door = 7
dial_status dial.Write = 4
dial_status dial.Memory = 5

abbrev pub link_status : LinkEnding → ℕ
link_status (Serve end) = serve_status end
link_status (Dial end) = dial_status end

abbrev pub door_note : List ℕ
door_note = codes "typha: door fault\n"

abbrev pub serve_note : ServeEnd → List ℕ
serve_note serve.Done = []
serve_note (serve.Fault f) = feed_note f
serve_note serve.Read = read_note
serve_note serve.Door = door_note
serve_note serve.Memory = memory_note

abbrev pub dial_note : DialEnd → List ℕ
dial_note dial.Done = []
dial_note (dial.Fault f) = fault_note f
dial_note (dial.Cut left) = cut_note left
dial_note dial.Link = codes "typha: link fault\n"
dial_note dial.Door = door_note
dial_note dial.Write = write_note
dial_note dial.Memory = memory_note

abbrev pub link_note : LinkEnding → List ℕ
link_note (Serve end) = serve_note end
link_note (Dial end) = dial_note end

-- A fabric whose headers have k more words, for which no match and no admitted set cares and which no entry rewrites: document 02, 2.6. So
-- version 1's fabric of four words is handled as one of eight.
use Rattle.std.specs.Prelude.{◌++◌, ℕ, ◌+◌, ◌-◌}
use Rattle.headers.specs.Bits.{words}
use Rattle.headers.specs.Sets.{Header, padded}
use Rattle.headers.specs.Actions.{padded_act}
use Rattle.forwarding.specs.Fabric.{Entry, Fabric}
use Rattle.forwarding.specs.Run.{Packet, left, dropped, missed, travelling, tied}
use Rattle.forwarding.specs.Trace.{Find, Event, unit, find}
use Rattle.forwarding.specs.Verdict.{Verdict, isolated, reached}

abbrev pub wider_entry : ℕ → Entry → Entry
wider_entry k e = record {
  priority = e.priority;
  in_port = e.in_port;
  out_port = e.out_port;
  matches = padded k e.matches;
  action = padded_act k e.action;
}

-- k more words, n in all
abbrev pub with_words : ℕ → ℕ → Fabric → Fabric
with_words n k f = record {
  words = n;
  entries = f.entries;
  entry = λ e. wider_entry k (f.entry e);
  is_edge = f.is_edge;
  group = f.group;
  admitted = λ x. padded k (f.admitted x);
  link_to = f.link_to;
  link_from = f.link_from;
  ports = f.ports;
  miss_drops = f.miss_drops;
}

abbrev pub wider : ℕ → Fabric → Fabric
wider k f = with_words (f.words + k) k f

-- the same, with n words in all
abbrev pub wider_to : ℕ → Fabric → Fabric
wider_to n f = with_words n (n - f.words) f

-- ---- what is found in it

abbrev pub wider_find : ℕ → Find → Find
wider_find k d = record { port = d.port; path = d.path; set = padded k d.set }

abbrev pub wider_event : ℕ → Event → Event
wider_event k unit = unit
wider_event k (find d) = find (wider_find k d)

-- a header with k more words that are 0
abbrev pub longer : ℕ → Header → Header
longer k h = h ++ words k (λ w. 0)

abbrev pub wider_verdict : ℕ → Verdict → Verdict
wider_verdict k (isolated u) = isolated u
wider_verdict k (reached u p q h) = reached u p q (longer k h)

abbrev pub wider_packet : ℕ → Packet → Packet
wider_packet k (left o h r) = left o (longer k h) r
wider_packet k (dropped x h r) = dropped x (longer k h) r
wider_packet k (missed x h r) = missed x (longer k h) r
wider_packet k (travelling x h r) = travelling x (longer k h) r
wider_packet k (tied x h r) = tied x (longer k h) r

-- Runs of one program in one order, of which each is counted, make a table: they count for the same objects, block by
-- block, and their sums are those of their counts. The function `SyncTable::new` stands on it.
use Rattle.std.proofs.Common.{◌≡◌, ◌<◌, ◌∙◌, ℕ, List, length, map, get_or, sym, ap, subst}
use Rattle.std.proofs.lemmas.List.{length-map}
use Rattle.qs_objects.specs.declared.held.Ticket.{Ticket}
use Rattle.qs_program.specs.audit.Program.{ProgramShape, text_of}
use Rattle.qs_sync_counts.specs.audit.SyncRows.{object_of}
use Rattle.qs_syncset.specs.declared.mode.Mode.{Mode}
use Rattle.qs_syncset.specs.declared.mode.Mode.TheVariants.{Plain, Dynamic, Static, Both}
use Rattle.qs_played.specs.SyncSums.{AreAll, AreSyncsCounted, counts_at}
use Rattle.qs_played.specs.audit.Isolation.{ticket_at}
use Rattle.qs_played.specs.audit.Played.{Played, ticket}
use Rattle.qs_report.specs.SyncTable.{AreOfOneOrder, IsBeside}

sums : (p : ProgramShape) (mode : Mode) (r : Played) → AreSyncsCounted p mode r → AreAll r
unfolding AreSyncsCounted
sums p mode r counted = counted.all

long : (p : ProgramShape) (mode : Mode) (r : Played) (i : ℕ) → i < length r.order → AreSyncsCounted p mode r
    → length (counts_at r i) ≡ length (text_of p (ticket_at r i)).reserved
unfolding AreSyncsCounted
long p mode r i less counted = sym (length-map (counts_at r i) object_of) ∙ ap length (counted.each i less).listed

beside : (p : ProgramShape) (mode other : Mode) (r s : Played) → AreSyncsCounted p mode r → AreSyncsCounted p other s
    → s.order ≡ r.order → IsBeside r s
beside p mode other r s one two order = record {
  order = order;
  long = λ i less.
      long p other s i (subst (λ (ts : List Ticket). i < length ts) (sym order) less) two
      ∙ ap (λ (ts : List Ticket). length (text_of p (get_or ts i (ticket 0 0))).reserved) order
      ∙ sym (long p mode r i less one);
  all = sums p other s two;
}

pub of_one_order : (p : ProgramShape) (none dynamic static both : Played) → AreSyncsCounted p Plain none → AreSyncsCounted p Dynamic dynamic
    → AreSyncsCounted p Static static → AreSyncsCounted p Both both → dynamic.order ≡ none.order → static.order ≡ none.order
    → both.order ≡ none.order → AreOfOneOrder none dynamic static both
of_one_order p none dynamic static both a b c d e f g = record {
  all = sums p Plain none a;
  second = beside p Plain Dynamic none dynamic a b e;
  third = beside p Plain Static none static a c f;
  fourth = beside p Plain Both none both a d g;
}

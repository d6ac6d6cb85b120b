-- What became of all requests has a row for each object, which is what became of that object's.
use Rattle.qs_svg.proofs.Common.{◌≡◌, ℕ, ◌<◌, [], length, get_or, arith, ProgramShape, Played, fates_of}
use Rattle.std.proofs.lemmas.List.FromFn.{get_or-map-range_with_len, length-map-range_with_len}
use Rattle.qs_text.specs.fates.Fates.{all_fates}

pub rows_of_fates : (p : ProgramShape) (run : Played) → length (all_fates p run) ≡ length p.objects
rows_of_fates p run = length-map-range_with_len (fates_of p run) 0 (length p.objects)

pub row_of_fates : (p : ProgramShape) (run : Played) (h : ℕ) → h < length p.objects → get_or (all_fates p run) h [] ≡ fates_of p run h
row_of_fates p run h within = get_or-map-range_with_len (fates_of p run) 0 (length p.objects) h h [] within (omega arith)

use Rattle.std.proofs.Common.{ℕ, List, ◌++◌, refl, ap, ◌∙◌, subst, arith}
use Rattle.rv_model.specs.Image.{Img}
use Rattle.gold.specs.declared.instances.Table.{Table}
use Rattle.tab_file.specs.Front.{whole_tables}
use Rattle.file_verdict.specs.declared.judging.FileVerdict.{FileVerdict}
use Rattle.file_verdict.specs.Standing.{HasBegun, StandsForFile, the_shape}
use Rattle.file_verdict.proofs.Steps.{Feed, Laws, both_bytes, fed_fill, fed_next, fed_of, fed_run, stands_failed}
use Rattle.file_verdict.proofs.judging.FileVerdictSink.take.Goals as goal

-- an item of what has come fails
pub returns-in_default : goal.returns-in_default
returns-in_default c =
    let old = c.args.self.now in
    let piece = c.args.piece.now in
    let new : FileVerdict = record { alloc = old.alloc; image = old.image; reader = c.feed.new.self; run = old.run } in
    let on : (image : Img) (bytes : List ℕ) → StandsForFile image bytes old → StandsForFile image (bytes ++ piece) new =
    λ image bytes s.
    stands_failed image bytes piece old new c.in-Err.e s (λ i. omega (arith, c.type_inv.piece i)) refl (c.in-Err.ensures.stands the_shape bytes s.reader c.in_default.not-NoMemory)
    (c.in-Err.ensures.err the_shape bytes s.reader c.in_default.not-NoMemory) in
    let r = c.requires.ready in
    record {
      given = λ start bytes given image fresh. on image bytes (given image fresh);
      ready = record { image = r.image; bytes = r.bytes ++ piece; stands = on r.image r.bytes r.stands; room = omega (arith, c.feed.ensures.taken, c.requires.room) };
      taken = c.feed.ensures.taken;
    }

pub begun-requires : goal.begun-requires
begun-requires c =
    let r = c.requires.ready in
    record {
      bytes = r.bytes ++ c.args.piece.now;
      are = both_bytes r.bytes c.args.piece.now r.stands.are (λ i. omega (arith, c.type_inv.piece i));
      stands = c.in-Ok.ensures.stands the_shape r.bytes r.stands.reader;
    }

pub with_tables-requires : goal.with_tables-requires
with_tables-requires c =
    let r = c.requires.ready in
    let old = c.args.self.now in
    let piece = c.args.piece.now in
    let tables = c.as_slice.result.now in
    let laws : Laws = record { places = c.front_laws.ensures.places; none = c.front_laws.ensures.none; later = c.front_laws.ensures.later } in
    let feed : Feed piece tables old.reader c.feed.new.self =
    record {
      are = λ i. omega (arith, c.type_inv.piece i);
      reads = c.in-Ok.ensures.stands;
      none = c.in-Ok.ensures.ok;
      again = c.in-Ok.ensures.again;
      tables_are = λ shape bytes s. ap (λ (ts : List Table). whole_tables bytes shape ++ ts) c.as_slice.ensures.items ∙ c.in-Ok.ensures.tables shape bytes s;
    } in
    let fed = fed_of r.image r.bytes piece tables old c.feed.new.self feed r.stands in
    fed_next laws old.image r.bytes piece tables c.feed.new.self c.in_ok-run.run' fed
    (c.in_ok-run.ensures (r.bytes ++ piece) (whole_tables r.bytes the_shape) fed.are fed.reads (fed_run laws r.image r.bytes piece tables c.feed.new.self old c.take.result c.take.ensures.value r.stands fed))

pub returns : goal.returns
returns c =
    let r = c.requires.ready in
    let old = c.args.self.now in
    let piece = c.args.piece.now in
    let tables = c.as_slice.result.now in
    let new : FileVerdict = record { alloc = old.alloc; image = old.image; reader = c.feed.new.self; run = c.in_ok-self.field-0 } in
    let laws : Laws = record { places = c.front_laws.ensures.places; none = c.front_laws.ensures.none; later = c.front_laws.ensures.later } in
    let feed : Feed piece tables old.reader c.feed.new.self =
    record {
      are = λ i. omega (arith, c.type_inv.piece i);
      reads = c.in-Ok.ensures.stands;
      none = c.in-Ok.ensures.ok;
      again = c.in-Ok.ensures.again;
      tables_are = λ shape bytes s. ap (λ (ts : List Table). whole_tables bytes shape ++ ts) c.as_slice.ensures.items ∙ c.in-Ok.ensures.tables shape bytes s;
    } in
    let on : (image : Img) (bytes : List ℕ) → StandsForFile image bytes old → StandsForFile image (bytes ++ piece) new =
    λ image bytes s.
    let fed = fed_of image bytes piece tables old c.feed.new.self feed s in
    let has = c.in_ok-run.ensures (bytes ++ piece) (whole_tables bytes the_shape) fed.are fed.reads (fed_run laws image bytes piece tables c.feed.new.self old c.take.result c.take.ensures.value s fed) in
    record {
      image_is = s.image_is;
      are = fed.are;
      reader = fed.reads;
      run = λ none.
          subst (λ (ts : List Table). HasBegun old.image (bytes ++ piece) ts c.in_ok-self.field-0) fed.tables_are
          (c.in_ok-self.ensures (bytes ++ piece) (whole_tables bytes the_shape) has (fed_fill laws bytes piece tables c.feed.new.self fed));
    } in
    record {
      given = λ start bytes given image fresh. on image bytes (given image fresh);
      ready = record { image = r.image; bytes = r.bytes ++ piece; stands = on r.image r.bytes r.stands; room = omega (arith, c.feed.ensures.taken, c.requires.room) };
      taken = c.feed.ensures.taken;
    }

use Rattle.video.specs.Composition.{shape_of}
use Rattle.rows.specs.Takes.{burst_bytes}
use Rattle.rows.proofs.Rows.{next_read, started, rest_of}
use Rattle.rows.proofs.reader.PageReader.next_row.Goals as goal

pub fill-requires : goal.fill-requires
fill-requires c = started c.renew.new.self _ _ _ _ c.renew.ensures

pub returns : goal.returns
returns c =
    let s = c.args.self.now in
    λ h. next_read (shape_of s.composition) (burst_bytes s.burst) s.page.now c.args.above c.end-found.result c.blank-idle.result c.args.found.now c.renew.new.self _ h
    (record { place = c.end-found.ensures; idles = c.blank-idle.ensures; buffer = c.renew.ensures; rest = rest_of c.end-found.result s.page.now })
    c.fill.result c.fill.new.row c.fill.ensures.row c.fill.ensures.fits (rw c.end-found.ensures c.requires.within)

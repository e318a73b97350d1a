use Rattle.std.proofs.Common.{◌≡◌, ℕ, ◌/◌, ◌%◌, ◌<◌, ◌^◌, arith}
use Rattle.listing.proofs.row.word_line.Goals as goal

first : (w : ℕ) → w < 2 ^ 32 → w / 0x1000000 % 0x100 / 16 % 16 ≡ w / 0x10000000
first w h = omega arith

second : (w : ℕ) → w / 0x1000000 % 0x100 % 16 ≡ w / 0x1000000 % 16
second w = omega arith

third : (w : ℕ) → w / 0x10000 % 0x100 / 16 % 16 ≡ w / 0x100000 % 16
third w = omega arith

fourth : (w : ℕ) → w / 0x10000 % 0x100 % 16 ≡ w / 0x10000 % 16
fourth w = omega arith

fifth : (w : ℕ) → w / 0x100 % 0x100 / 16 % 16 ≡ w / 0x1000 % 16
fifth w = omega arith

sixth : (w : ℕ) → w / 0x100 % 0x100 % 16 ≡ w / 0x100 % 16
sixth w = omega arith

seventh : (w : ℕ) → w % 0x100 / 16 % 16 ≡ w / 0x10 % 16
seventh w = omega arith

last : (w : ℕ) → w % 0x100 % 16 ≡ w % 16
last w = omega arith

pub returns : goal.returns
returns c =
    let h : c.args.word < 2 ^ 32 = c.ranges.word.fits in
    simp (
      c.write.ensures,
      c.write-2.ensures,
      c.write-3.ensures,
      c.write-4.ensures,
      c.write-5.ensures,
      c.write-6.ensures,
      c.write-7.ensures,
      c.write-8.ensures,
      c.to_be_bytes.ensures,
      first c.args.word h,
      second,
      third,
      fourth,
      fifth,
      sixth,
      seventh,
      last,
    )

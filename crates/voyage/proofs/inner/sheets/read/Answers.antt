use Rattle.std.proofs.Common.{◌≡◌, length, rules}
use Rattle.voyage.proofs.KeptLaws.{holds-whole}
use Rattle.voyage.proofs.inner.sheets.read.Goals as goal

-- the file fits into the memory
pub returns : goal.returns
returns g c =
    let told = c.told-memory in
    let full : length c.read_full-n.new.room ≡ 90273 = search rules in
    holds-whole c.read_full-n.result c.read_full-n.new.room c.front.ensures full c.whole.ensures

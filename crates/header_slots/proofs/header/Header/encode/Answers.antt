use Rattle.std.proofs.Common.{◌∙◌, [], arith, refl}
use Rattle.byteorder.specs.Numbers.{big_number-reads_back}
use Rattle.header_slots.specs.Number.{number_at}
use Rattle.header_slots.proofs.header.Header.encode.Goals as goal

pub returns : goal.returns
unfolding number_at
returns c =
    let header = c.args.self.now in
    rw (c.write_u64-4.ensures, c.write_u32.ensures, c.write_u64-3.ensures, c.write_u64-2.ensures, c.write_u64.ensures) record {
      begins = big_number-reads_back 8 c.magic.result [] (omega arith) ∙ c.magic.ensures;
      generation = big_number-reads_back 8 header.generation [] (omega arith);
      blocks = big_number-reads_back 8 header.geometry.blocks [] (omega arith);
      area = big_number-reads_back 4 c.area_size.result [] (omega arith) ∙ c.area_size.ensures;
      mode = c.mode.ensures;
      first_area = refl {a = header.first_area};
      map_slot = c.index.ensures;
      base = big_number-reads_back 8 header.base [] (omega arith);
    }

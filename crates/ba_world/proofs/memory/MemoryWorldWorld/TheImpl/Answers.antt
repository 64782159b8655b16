use Rattle.std.proofs.Common.{rules, refl}
use Rattle.ba_world.proofs.Told.{ending, printed_prefix, added_whole, added_prefix, files-after_add, others-after_add, held_in-same, kept_in-same, held_in-written, files-after_begin, begun_file, writes_none, after_open-opened, after_next-gives, after_next-none, after_next-still}
use Rattle.ba_world.proofs.memory.MemoryWorldWorld.TheImpl.Goals as goal

pub print-tells : goal.print-tells
print-tells c =
    let end = ending c.result c.new.self.now _ _ _ _ c.ensures.exactly c.ensures.memory in
    record {
      printed = search rules;
      prefix = printed_prefix c.result c.args.bytes.now c.args.self.now c.new.self.now end;
      cause = search rules;
      shortage = search rules;
      stays = record {
        no_fall = search rules;
        no_fewer = search rules;
        held = search rules;
        left = search rules;
        kept = search rules;
        writing = search rules;
        is_reading = search rules;
        is_writing = search rules;
        read_faults = search rules;
        given = search rules;
      };
    }

pub add-tells : goal.add-tells
add-tells c =
    let end = ending c.result c.new.self.now _ _ _ _ c.ensures.exactly c.ensures.memory in
    let grown = files-after_add c.result c.args.bytes.now c.args.self.now c.new.self.now end in
    let stay = others-after_add c.args.self.now.writing c.args.bytes.now c.args.self.now.files c.new.self.now.files grown in
    record {
      added = added_whole c.result c.args.bytes.now c.args.self.now c.new.self.now end;
      prefix = added_prefix c.args.self.now.writing c.args.bytes.now c.args.self.now.files c.new.self.now.files grown;
      cause = search rules;
      others = record {
        begun = search rules;
        named = search rules;
        held = held_in-written c.args.self.now.writing c.args.self.now.files c.new.self.now.files stay;
        kept = λ other apart. kept_in-same c.args.self.now.files c.new.self.now.files other (stay other apart);
      };
      stays = record {
        no_fall = search rules;
        printed = search rules;
        is_reading = search rules;
        read_faults = search rules;
        print_shortages = search rules;
        given = search rules;
      };
    }

pub begin_file-tells : goal.begin_file-tells
begin_file-tells c =
    let end = ending c.result c.new.self.now _ _ _ _ c.ensures.exactly c.ensures.memory in
    let stay = files-after_begin c.result c.args.name.now c.args.self.now c.new.self.now _ _ _ end refl refl refl in
    record {
      begun = begun_file c.result c.args.name.now c.args.self.now c.new.self.now _ _ _ end refl refl;
      refused = writes_none c.result c.args.name.now c.args.self.now c.new.self.now _ _ _ end refl refl
          refl refl;
      cause = search rules;
      others = record {
        held = λ other apart. held_in-same c.args.self.now.files c.new.self.now.files other (stay other apart);
        kept = λ other apart. kept_in-same c.args.self.now.files c.new.self.now.files other (stay other apart);
      };
      stays = record {
        no_fall = search rules;
        printed = search rules;
        is_reading = search rules;
        read_faults = search rules;
        print_shortages = search rules;
        given = search rules;
      };
    }

pub next_piece-tells : goal.next_piece-tells
next_piece-tells c = record {
  given = after_next-gives c.args.into.now c.args.self.now (c.result, c.new.into.now, c.new.self.now) c.ensures.exactly c.requires.room c.ensures.piece;
  refused = after_next-none c.args.into.now c.args.self.now (c.result, c.new.into.now, c.new.self.now) c.ensures.exactly;
  cause = search rules;
  still = after_next-still c.args.into.now c.args.self.now (c.result, c.new.into.now, c.new.self.now) c.ensures.exactly c.requires.reading;
  stays = record {
    no_fall = search rules;
    held = search rules;
    kept = search rules;
    writing = search rules;
    printed = search rules;
    is_writing = search rules;
    write_faults = search rules;
    print_shortages = search rules;
  };
}

pub open_file-tells : goal.open_file-tells
open_file-tells c = record {
  opened = after_open-opened c.args.name.now c.args.self.now (c.result, c.new.self.now) c.ensures.exactly;
  refused = search rules;
  cause = search rules;
  none_given = search rules;
  stays = record {
    no_fall = search rules;
    held = search rules;
    kept = search rules;
    writing = search rules;
    printed = search rules;
    is_writing = search rules;
    write_faults = search rules;
    print_shortages = search rules;
  };
}

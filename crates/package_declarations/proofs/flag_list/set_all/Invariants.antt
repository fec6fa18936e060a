use Rattle.std.proofs.Common.{◌≡◌, unwrap_or, drop}
use Rattle.package_declarations.specs.Flags.{default_said, manual_said}
use Rattle.text_grammar.specs.Last.{last_given}
use Rattle.package_declarations.proofs.flag_list.set_all.Given as goal

abbrev pub invariant-loop-part : goal.invariant-loop-part
invariant-loop-part l =
    record l.flag {
      default = unwrap_or (last_given (λ part. default_said part.said) (drop l.part-index l.parts)) l.flag.default;
      manual = unwrap_or (last_given (λ part. manual_said part.said) (drop l.part-index l.parts)) l.flag.manual;
    }
    ≡ record l.fn.flag {
      default = unwrap_or (last_given (λ part. default_said part.said) l.parts) l.fn.flag.default;
      manual = unwrap_or (last_given (λ part. manual_said part.said) l.parts) l.fn.flag.manual;
    }

use Rattle.index_files.proofs.Records.{fault-as, formed-as, found-as}
use Rattle.index_files.proofs.units.record_of.Goals as goal

pub returns : goal.returns
returns c = record {
  found = found-as c.args.bytes.now c.read_record.result c.read_record.ensures.«record»;
  fault = fault-as c.args.bytes.now c.read_record.result c.read_record.ensures.fault;
  formed = formed-as c.read_record.result c.read_record.ensures.name c.read_record.ensures.version;
}

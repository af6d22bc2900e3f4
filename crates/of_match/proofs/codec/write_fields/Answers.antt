use Rattle.std.proofs.Common.{refl}
use Rattle.of_match.specs.Fields.{bytes_of}
use Rattle.of_match.specs.laws.FieldsLaws.{value_within}
use Rattle.of_match.proofs.codec.write_fields.Goals as goal

pub returns-clause-value : goal.returns-clause-value
unfolding bytes_of
returns-clause-value c =
    rw (
      c.to_be_bytes.ensures,
      c.wildcards.ensures,
      c.to_be_bytes-in_port.ensures,
      c.unwrap_or.ensures,
      c.address_or_zero-dl_src.ensures.value,
      c.address_or_zero-dl_dst.ensures.value,
      c.to_be_bytes-dl_vlan.ensures,
      c.unwrap_or-2.ensures,
      c.unwrap_or-pcp.ensures,
      c.to_be_bytes-dl_type.ensures,
      c.unwrap_or-3.ensures,
      c.unwrap_or-tos.ensures,
      c.unwrap_or-proto.ensures,
      c.to_be_bytes-2.ensures,
      c.kept_address.ensures.value,
      c.to_be_bytes-3.ensures,
      c.kept_address-2.ensures.value,
      c.to_be_bytes-tp_src.ensures,
      c.unwrap_or-4.ensures,
      c.to_be_bytes-tp_dst.ensures,
      c.unwrap_or-5.ensures,
    ) refl

pub returns-clause-within : goal.returns-clause-within
returns-clause-within c = record {
  in_port = value_within c.args.f.in_port _ c.unwrap_or.result c.unwrap_or.ensures c.unwrap_or.type_inv;
  dl_src = c.address_or_zero-dl_src.ensures.within;
  dl_dst = c.address_or_zero-dl_dst.ensures.within;
  dl_vlan = value_within c.args.f.dl_vlan _ c.unwrap_or-2.result c.unwrap_or-2.ensures c.unwrap_or-2.type_inv;
  dl_vlan_pcp = value_within c.args.f.dl_vlan_pcp _ c.unwrap_or-pcp.result c.unwrap_or-pcp.ensures c.unwrap_or-pcp.type_inv;
  dl_type = value_within c.args.f.dl_type _ c.unwrap_or-3.result c.unwrap_or-3.ensures c.unwrap_or-3.type_inv;
  nw_tos = value_within c.args.f.nw_tos _ c.unwrap_or-tos.result c.unwrap_or-tos.ensures c.unwrap_or-tos.type_inv;
  nw_proto = value_within c.args.f.nw_proto _ c.unwrap_or-proto.result c.unwrap_or-proto.ensures c.unwrap_or-proto.type_inv;
  nw_src = c.kept_address.ensures.within;
  nw_dst = c.kept_address-2.ensures.within;
  tp_src = value_within c.args.f.tp_src _ c.unwrap_or-4.result c.unwrap_or-4.ensures c.unwrap_or-4.type_inv;
  tp_dst = value_within c.args.f.tp_dst _ c.unwrap_or-5.result c.unwrap_or-5.ensures c.unwrap_or-5.type_inv;
}
